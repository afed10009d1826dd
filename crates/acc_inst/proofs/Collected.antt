-- The instances that are collected hypothesis by hypothesis are those that the values of all hypotheses give.
use Rattle.std.proofs.Common.{◌≡◌, ℕ, ◌+◌, ◌<◌, ◌≤◌, Bool, true, false, List, [], ◌∷◌, ◌++◌, length, map, refl, ap, sym, ◌∙◌, arith, Ok, Err}
use Rattle.std.proofs.Common.{if◌then◌else◌}
use Rattle.std.specs.Prelude.{nat_le}
use Rattle.std.proofs.lemmas.Bool.{leb-true, leb-false}
use Rattle.std.proofs.lemmas.List.{append_assoc, append-nil, length-append, length-map}
use Rattle.std.proofs.lemmas.List.Concat.{flat_map_single}
use Rattle.acc_base.specs.declared.bounds.TheConstants.{MOST_INSTANCES}
use Rattle.acc_base.specs.declared.forms.Lin.{Lin}
use Rattle.acc_base.specs.declared.forms.Clause.{Clause}
use Rattle.acc_base.specs.Computing.{chain, steps}
use Rattle.acc_prover_choices.specs.declared.targets.Target.{Target}
use Rattle.acc_prover_choices.specs.declared.listing.InstError.TheVariants.{Crowded}
use Rattle.acc_prover_choices.specs.Parts.{Listing, with_firsts, unless_crowded}
use Rattle.acc_prover_choices.specs.Targets.{same_lins}
use Rattle.acc_prover_choices.specs.Choices.{values_of}
use Rattle.acc_prover_choices.specs.Walks.{with_few}
use Rattle.acc_prover_choices.proofs.Firsts.{grows}
use Rattle.acc_prover_choices.proofs.Crowds.{few, many, few_on, steps_few, steps_flat}
use Rattle.acc_prover_choices.proofs.Levels.{same_decides, chain_ok}
use Rattle.acc_inst.specs.Making.{Chosen}
use Rattle.acc_inst.specs.Instances.{Text, patterns_of, hinted, values_for, all_chosen}
use Rattle.acc_inst.specs.Walks.{with_hint, with_hints, found_for, with_choice, with_choices, with_hypothesis, instances_by}

-- ---- the values for a hypothesis's own variables

-- the hints behind some values
hints_are : (hints : List Lin) (vars : List Text) (found : List (List Lin)) → length found ≤ MOST_INSTANCES
    → with_hints hints vars found ≡ unless_crowded (with_firsts same_lins found (hinted hints vars))
hints_are hints [] found short = sym (few found short)
hints_are hints (v ∷ []) found short =
    steps_flat with_hint (with_few same_lins) (λ l. (l ∷ []) ∷ []) (λ s l. sym (chain_ok (with_hint s l))) hints found
    ∙ (ap (steps (with_few same_lins) found) (flat_map_single (λ l. l ∷ []) hints)
    ∙ steps_few same_lins same_decides (map (λ l. l ∷ []) hints) found short)
hints_are hints (v ∷ w ∷ vs) found short = sym (few found short)

module _ (targets : List Target) (first : ℕ) (hints : List Lin) where
  found_are : (c : Clause) (vars : List Text) → found_for targets first hints c vars ≡ unless_crowded (values_for targets first hints c vars)
  found_are c [] = sym (few ([] ∷ []) (omega arith))
  found_are c (v ∷ vs) =
      few_on (λ found. with_firsts same_lins found (hinted hints c.vars)) (with_hints hints c.vars)
      (values_of targets (length c.vars) (patterns_of first c)) (λ short. hints_are hints c.vars _ short)
      (grows same_lins same_decides (values_of targets (length c.vars) (patterns_of first c)) (hinted hints c.vars))

-- ---- the instances of a hypothesis

chosen_are : (h : ℕ) (values : List (List Lin)) (insts : List Chosen) → length insts ≤ MOST_INSTANCES
    → steps (with_choice h) insts values ≡ unless_crowded (insts ++ map (λ ls. (h, ls)) values)
chosen_are h [] insts short = sym (few insts short) ∙ ap unless_crowded (sym (append-nil insts))
chosen_are h (ls ∷ values) insts short =
    by (nat_le MOST_INSTANCES (length insts)) refl (λ short. chosen_are h values (insts ++ (h, ls) ∷ []) short)
  where
    all : insts ++ map (λ ls. (h, ls)) (ls ∷ values) ≡ (insts ++ (h, ls) ∷ []) ++ map (λ ls. (h, ls)) values
    all = sym (append_assoc insts ((h, ls) ∷ []) (map (λ ls. (h, ls)) values))

    by : (b : Bool) → nat_le MOST_INSTANCES (length insts) ≡ b
        → (length (insts ++ (h, ls) ∷ []) ≤ MOST_INSTANCES
        → steps (with_choice h) (insts ++ (h, ls) ∷ []) values ≡ unless_crowded ((insts ++ (h, ls) ∷ []) ++ map (λ ls. (h, ls)) values))
        → chain (if b then Err Crowded else Ok (insts ++ (h, ls) ∷ [])) (λ t. steps (with_choice h) t values)
        ≡ unless_crowded (insts ++ map (λ ls. (h, ls)) (ls ∷ values))
    by true e rest =
        let full : MOST_INSTANCES ≤ length insts = leb-true MOST_INSTANCES (length insts) e in
        let long = length-append insts ((h, ls) ∷ map (λ ls. (h, ls)) values) in
        sym (many (insts ++ (h, ls) ∷ map (λ ls. (h, ls)) values) (omega (arith, full, long)))
    by false e rest =
        let room : length insts < MOST_INSTANCES = leb-false MOST_INSTANCES (length insts) e in
        let long = length-append insts ((h, ls) ∷ []) in
        rest (omega (arith, room, long)) ∙ ap unless_crowded (sym all)

module _ (targets : List Target) (first : ℕ) (hints : List Lin) where
  abbrev new_ones : ℕ → Clause → List Chosen
  new_ones h c = map (λ ls. (h, ls)) (values_for targets first hints c c.vars)

  choices_are : (h : ℕ) (c : Clause) (insts : List Chosen) → length insts ≤ MOST_INSTANCES
      → with_choices targets first hints h insts c ≡ unless_crowded (insts ++ new_ones h c)
  choices_are h c insts short =
      ap (λ o. chain o (steps (with_choice h) insts)) (found_are targets first hints c c.vars)
      ∙ few_on (λ values. insts ++ map (λ ls. (h, ls)) values) (steps (with_choice h) insts) (values_for targets first hints c c.vars)
      (λ _. chosen_are h (values_for targets first hints c c.vars) insts short)
      (let long = length-append insts (new_ones h c) in
      let same = length-map {B = Chosen} (values_for targets first hints c c.vars) (λ ls. (h, ls)) in
      omega (arith, long, same))

  -- ---- hypothesis by hypothesis

  hypotheses_are : (cs : List Clause) (h : ℕ) (insts : List Chosen) → length insts ≤ MOST_INSTANCES
      → chain (steps (with_hypothesis targets first hints) (h, insts) cs) (λ s. Ok s.1) ≡ unless_crowded (insts ++ all_chosen targets first
      hints h cs)
  hypotheses_are [] h insts short = sym (few insts short) ∙ ap unless_crowded (sym (append-nil insts))
  hypotheses_are (c ∷ cs) h insts short =
      turn (with_choices targets first hints h insts c)
      ∙ (ap (λ o. chain o (λ is. chain (steps (with_hypothesis targets first hints) (h + 1, is) cs) (λ s. Ok s.1)))
      (choices_are h c insts short)
      ∙ (few_on (λ is. is ++ all_chosen targets first hints (h + 1) cs)
      (λ is. chain (steps (with_hypothesis targets first hints) (h + 1, is) cs) (λ s. Ok s.1)) (insts ++ new_ones h c)
      (λ room. hypotheses_are cs (h + 1) (insts ++ new_ones h c) room)
      (let long = length-append (insts ++ new_ones h c) (all_chosen targets first hints (h + 1) cs) in omega (arith, long))
      ∙ ap unless_crowded (append_assoc insts (new_ones h c) (all_chosen targets first hints (h + 1) cs))))
    where
      turn : (o : Listing (List Chosen))
          → chain (chain (chain o (λ is. Ok (h + 1, is))) (λ t. steps (with_hypothesis targets first hints) t cs)) (λ s. Ok s.1)
          ≡ chain o (λ is. chain (steps (with_hypothesis targets first hints) (h + 1, is) cs) (λ s. Ok s.1))
      turn (Ok is) = refl
      turn (Err e) = refl

  pub instances_are : (cs : List Clause) → instances_by targets first hints cs ≡ unless_crowded (all_chosen targets first hints 0 cs)
  instances_are cs = hypotheses_are cs 0 [] (omega arith)
