-- The values that are listed are as many as the own variables.
use Rattle.std.proofs.Common.{◌≡◌, ℕ, Bool, true, false, List, [], ◌∷◌, ◌++◌, length, map, ◌∙◌, if◌then◌else◌}
use Rattle.std.specs.Prelude.{All}
use Rattle.std.specs.List.{list_any}
use Rattle.std.proofs.lemmas.List.{length-map}
use Rattle.std.proofs.lemmas.List.Elements.{All-nil, All-cons, All-head, All-tail, All-push}
use Rattle.acc_base.specs.declared.forms.Lin.{Lin}
use Rattle.acc_base.specs.Items.{numbers_from}
use Rattle.acc_prover_choices.specs.declared.targets.Target.{Target}
use Rattle.acc_prover_choices.specs.declared.patterns.Pattern.{Pattern}
use Rattle.acc_prover_choices.specs.Parts.{with_first, with_firsts}
use Rattle.acc_prover_choices.specs.Targets.{same_lins}
use Rattle.acc_prover_choices.specs.Choices.{Pick, all_choices, value_in, values_in, values_of}
use Rattle.acc_prover_choices.proofs.Components.{numbers_long}

-- what holds of all items holds of those that are listed once
pub all_firsts : {X : Type 0} (P : X → Type 0) (same : X → X → Bool) (more found : List X) → All P found → All P more
    → All P (with_firsts same found more)
all_firsts P same [] found h g = h
all_firsts P same (x ∷ more) found h g =
    all_firsts P same more (with_first same found x) (by (list_any (same x) found)) (All-tail P x more g)
  where
    by : (b : Bool) → All P (if b then found else found ++ x ∷ [])
    by true = h
    by false = All-push P found x h (All-head P x more g)

abbrev pub Long : ℕ → List Lin → Type 0
Long n ls = length ls ≡ n

values_long : (n : ℕ) (choice : List Pick) → Long n (values_in n choice)
values_long n choice = length-map (numbers_from 0 n) (value_in choice) ∙ numbers_long 0 n

each_long : (n : ℕ) (choices : List (List Pick)) → All (Long n) (map (values_in n) choices)
each_long n [] = All-nil (Long n)
each_long n (c ∷ choices) = All-cons (Long n) (values_in n c) (map (values_in n) choices) (values_long n c) (each_long n choices)

pub all_long : (targets : List Target) (n : ℕ) (patterns : List Pattern) → All (Long n) (values_of targets n patterns)
all_long targets n patterns =
    all_firsts (Long n) same_lins (map (values_in n) (all_choices targets n patterns)) [] (All-nil (Long n))
    (each_long n (all_choices targets n patterns))
