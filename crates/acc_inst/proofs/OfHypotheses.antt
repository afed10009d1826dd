-- The instances that are listed are of hypotheses, each with as many values as own variables.
use Rattle.std.proofs.Common.{◌≡◌, ℕ, suc, ◌+◌, Bool, true, false, List, [], ◌∷◌, length, map, Some, Ok, Err, refl, ap, ◌∙◌, subst, arith}
use Rattle.std.proofs.Common.{if◌then◌else◌}
use Rattle.std.specs.Prelude.{All, slice_get, nat_lt}
use Rattle.std.proofs.lemmas.List.Elements.{All-nil, All-cons, All-head, All-tail, All-append}
use Rattle.acc_base.specs.declared.bounds.TheConstants.{MOST_INSTANCES}
use Rattle.acc_base.specs.declared.forms.Lin.{Lin}
use Rattle.acc_base.specs.declared.forms.Clause.{Clause}
use Rattle.acc_base.specs.declared.sequents.Sequent.{Sequent}
use Rattle.acc_prover_choices.specs.declared.targets.Target.{Target}
use Rattle.acc_prover_choices.specs.declared.listing.InstError.TheVariants.{Crowded}
use Rattle.acc_prover_choices.specs.Parts.{unless_crowded}
use Rattle.acc_prover_choices.specs.Targets.{same_lins, targets_of}
use Rattle.acc_prover_choices.specs.Choices.{values_of}
use Rattle.acc_prover_choices.proofs.Lengths.{Long, all_firsts, all_long}
use Rattle.acc_inst.specs.Making.{Chosen, IsOf}
use Rattle.acc_inst.specs.Instances.{Text, patterns_of, hinted, values_for, all_chosen, instances_of}

hints_long : (hints : List Lin) (vars : List Text) → All (Long (length vars)) (hinted hints vars)
hints_long hints [] = All-nil (Long 0)
hints_long [] (v ∷ []) = All-nil (Long (length (v ∷ [])))
hints_long (l ∷ hints) (v ∷ []) =
    All-cons (Long (length (v ∷ []))) (l ∷ []) (hinted hints (v ∷ [])) refl (hints_long hints (v ∷ []))
hints_long hints (v ∷ w ∷ vs) = All-nil (Long (length (v ∷ w ∷ vs)))

values_are_long : (targets : List Target) (first : ℕ) (hints : List Lin) (c : Clause) (vars : List Text) → vars ≡ c.vars
    → All (Long (length c.vars)) (values_for targets first hints c vars)
values_are_long targets first hints c [] e =
    All-cons (Long (length c.vars)) [] [] (ap length e) (All-nil (Long (length c.vars)))
values_are_long targets first hints c (v ∷ vs) e =
    all_firsts (Long (length c.vars)) same_lins (hinted hints c.vars) (values_of targets (length c.vars) (patterns_of first c))
    (all_long targets (length c.vars) (patterns_of first c)) (hints_long hints c.vars)

-- ---- hypothesis by hypothesis

module _ (q : Sequent) where
  chosen_of : (c : Clause) (h : ℕ) → slice_get q.hyps h ≡ Some c → (values : List (List Lin)) → All (Long (length c.vars)) values
      → All (IsOf q) (map (λ ls. (h, ls)) values)
  chosen_of c h found [] long = All-nil (IsOf q)
  chosen_of c h found (ls ∷ values) long =
      All-cons (IsOf q) (h, ls) (map (λ ls. (h, ls)) values) (c, found, All-head (Long (length c.vars)) ls values long)
      (chosen_of c h found values (All-tail (Long (length c.vars)) ls values long))

  -- the hypotheses from a number on
  abbrev From : ℕ → List Clause → Type 0
  From h cs = (i : ℕ) → slice_get q.hyps (h + i) ≡ slice_get cs i

  all_of : (targets : List Target) (hints : List Lin) (cs : List Clause) (h : ℕ) → From h cs
      → All (IsOf q) (all_chosen targets q.vars hints h cs)
  all_of targets hints [] h from = All-nil (IsOf q)
  all_of targets hints (c ∷ cs) h from =
      All-append (IsOf q) (map (λ ls. (h, ls)) (values_for targets q.vars hints c c.vars)) (all_chosen targets q.vars hints (h + 1) cs)
      (chosen_of c h here (values_for targets q.vars hints c c.vars) (values_are_long targets q.vars hints c c.vars refl))
      (all_of targets hints cs (h + 1) next)
    where
      here : slice_get q.hyps h ≡ Some c
      here = let e : h + 0 ≡ h = omega arith in subst (λ n. slice_get q.hyps n ≡ Some c) e (from 0)

      next : From (h + 1) cs
      next i =
          let n : (h + 1) + i ≡ h + suc i = omega arith in
          ap (slice_get q.hyps) n ∙ from (suc i)

  -- what is listed isn't too much
  listed_are : {X : Type 0} (xs ys : List X) → unless_crowded xs ≡ Ok ys → xs ≡ ys
  listed_are {X} xs ys = by (nat_lt MOST_INSTANCES (length xs))
    where
      by : (b : Bool) → (if b then Err Crowded else Ok xs) ≡ Ok ys → xs ≡ ys
      by true e = absurd (cc)
      by false e = cc

  pub listed_are_of : (hints : List Lin) (insts : List Chosen) → instances_of q hints ≡ Ok insts → All (IsOf q) insts
  listed_are_of hints insts e =
      subst (All (IsOf q)) (listed_are (all_chosen (targets_of q) q.vars hints 0 q.hyps) insts e)
      (all_of (targets_of q) hints q.hyps 0 (λ i. let e : 0 + i ≡ i = omega arith in ap (slice_get q.hyps) e))
