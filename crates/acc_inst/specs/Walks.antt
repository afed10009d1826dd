-- How instances are collected hypothesis by hypothesis, until they become too many.
use Rattle.std.specs.Prelude.{◌+◌, ℕ, if◌then◌else◌, List, [], ◌∷◌, ◌++◌, length, nat_le, Ok, Err}
use Rattle.acc_base.specs.declared.bounds.TheConstants.{MOST_INSTANCES}
use Rattle.acc_base.specs.declared.forms.Lin.{Lin}
use Rattle.acc_base.specs.declared.forms.Clause.{Clause}
use Rattle.acc_base.specs.Computing.{chain, steps}
use Rattle.acc_prover_choices.specs.declared.targets.Target.{Target}
use Rattle.acc_prover_choices.specs.declared.listing.InstError.TheVariants.{Crowded}
use Rattle.acc_prover_choices.specs.Parts.{Listing}
use Rattle.acc_prover_choices.specs.Targets.{same_lins}
use Rattle.acc_prover_choices.specs.Choices.{by_patterns}
use Rattle.acc_prover_choices.specs.Walks.{with_few}
use Rattle.acc_inst.specs.Making.{Chosen}
use Rattle.acc_inst.specs.Instances.{Text, patterns_of}

abbrev pub with_hint : List (List Lin) → Lin → Listing (List (List Lin))
with_hint found l = with_few same_lins found (l ∷ [])

abbrev pub with_hints : List Lin → List Text → List (List Lin) → Listing (List (List Lin))
with_hints hints [] found = Ok found
with_hints hints (v ∷ []) found = steps with_hint found hints
with_hints hints (v ∷ w ∷ vs) found = Ok found

abbrev pub some_values : List Target → ℕ → List Lin → Clause → Listing (List (List Lin))
some_values targets first hints c =
    chain (by_patterns targets (length c.vars) (patterns_of first c)) (with_hints hints c.vars)

abbrev pub found_for : List Target → ℕ → List Lin → Clause → List Text → Listing (List (List Lin))
found_for targets first hints c [] = Ok ([] ∷ [])
found_for targets first hints c (v ∷ vs) = some_values targets first hints c

abbrev pub with_choice : ℕ → List Chosen → List Lin → Listing (List Chosen)
with_choice h insts values =
    if nat_le MOST_INSTANCES (length insts) then Err Crowded else Ok (insts ++ (h, values) ∷ [])

abbrev pub with_choices : List Target → ℕ → List Lin → ℕ → List Chosen → Clause → Listing (List Chosen)
with_choices targets first hints h insts c = chain (found_for targets first hints c c.vars) (steps (with_choice h) insts)

-- the number of the next hypothesis, and the instances so far
abbrev pub Numbered : Type 0
Numbered = ℕ × List Chosen

abbrev pub with_hypothesis : List Target → ℕ → List Lin → Numbered → Clause → Listing Numbered
with_hypothesis targets first hints s c = chain (with_choices targets first hints s.0 s.1 c) (λ insts. Ok (s.0 + 1, insts))

abbrev pub instances_by : List Target → ℕ → List Lin → List Clause → Listing (List Chosen)
instances_by targets first hints hyps = chain (steps (with_hypothesis targets first hints) (0, []) hyps) (λ s. Ok s.1)
