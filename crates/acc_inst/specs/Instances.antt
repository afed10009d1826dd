-- The instances of a sequent's hypotheses.
use Rattle.std.specs.Prelude.{◌+◌, ℕ, List, [], ◌∷◌, ◌++◌, length, map}
use Rattle.acc_base.specs.declared.forms.Lin.{Lin}
use Rattle.acc_base.specs.declared.forms.Clause.{Clause}
use Rattle.acc_base.specs.declared.sequents.Sequent.{Sequent}
use Rattle.acc_prover_choices.specs.declared.targets.Target.{Target}
use Rattle.acc_prover_choices.specs.declared.patterns.Pattern.{Pattern}
use Rattle.acc_prover_choices.specs.Parts.{Listing, with_firsts, unless_crowded}
use Rattle.acc_prover_choices.specs.Targets.{same_lins, rel_targets, targets_of}
use Rattle.acc_prover_choices.specs.Choices.{pattern_of, values_of}
use Rattle.acc_inst.specs.Making.{Chosen}

abbrev pub Text : Type 0
Text = List ℕ

-- the table atoms of a hypothesis as patterns, guards first
abbrev pub patterns_of : ℕ → Clause → List Pattern
patterns_of first c = map (pattern_of first (length c.vars)) (rel_targets (c.guards ++ c.rel ∷ []))

-- each hint for a single variable
abbrev pub hinted : List Lin → List Text → List (List Lin)
hinted hints [] = []
hinted hints (v ∷ []) = map (λ l. l ∷ []) hints
hinted hints (v ∷ w ∷ vs) = []

-- the values for a hypothesis's own variables, equal ones once: those that targets give, and then the hints. No values where it has none
abbrev pub values_for : List Target → ℕ → List Lin → Clause → List Text → List (List Lin)
values_for targets first hints c [] = [] ∷ []
values_for targets first hints c (v ∷ vs) =
    with_firsts same_lins (values_of targets (length c.vars) (patterns_of first c)) (hinted hints c.vars)

-- hypothesis by hypothesis, which are numbered from h on
abbrev pub all_chosen : List Target → ℕ → List Lin → ℕ → List Clause → List Chosen
all_chosen targets first hints h [] = []
all_chosen targets first hints h (c ∷ cs) =
    map (λ values. (h, values)) (values_for targets first hints c c.vars) ++ all_chosen targets first hints (h + 1) cs

abbrev pub instances_of : Sequent → List Lin → Listing (List Chosen)
instances_of q hints = unless_crowded (all_chosen (targets_of q) q.vars hints 0 q.hyps)
