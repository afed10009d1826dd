-- Where the obligations on the numbers of actions are true, the actions of an undo path stay in range, and share it.
use Rattle.std.proofs.Common.{◌≡◌, ◌≢◌, ℕ, ◌^◌, ◌≤◌, true, false, if◌then◌else◌, List, [], ◌∷◌, ◌++◌, map, length, refl, ap, ◌∙◌, subst}
use Rattle.std.proofs.Common.{arith}
use Rattle.std.proofs.Common.{Some, None, ℤ, pos, neg_ℤ, ◌+ℤ◌, ◌≤ℤ◌}
use Rattle.std.specs.Prelude.{unsigned_abs, count_by, ◌&&◌}
use Rattle.std.specs.List.{list_all, AllByRecursion}
use Rattle.std.proofs.Math.Nat.{div-le_self}
use Rattle.std.proofs.lemmas.List.Folds.{list_all-append}
use Rattle.acc_base.specs.declared.tables.Row.{Row}
use Rattle.acc_base.specs.declared.forms.Lin.{Lin}
use Rattle.acc_base.specs.declared.steps.Action.{Action}
use Rattle.acc_base.specs.declared.steps.Action.TheVariants as action
use Rattle.acc_base.specs.declared.steps.Path.{Path}
use Rattle.acc_base.specs.declared.steps.Step.{Step}
use Rattle.acc_base.specs.declared.designs.Side.TheVariants.{Undo}
use Rattle.acc_base.specs.declared.designs.Point.{Point}
use Rattle.acc_base.specs.declared.designs.Design.{Design}
use Rattle.acc_base.specs.declared.machines.Frame.{Frame}
use Rattle.acc_base.specs.declared.sequents.Rule.TheVariants.{Begins, Ranges, Empty}
use Rattle.acc_base.specs.Numbers.{is_small, IsSmall}
use Rattle.acc_base.specs.Linear.{variables, lin_value, lin_values}
use Rattle.acc_base.specs.Reads.{Reading, unread}
use Rattle.acc_base.specs.Actions.{action_numbers, after_action, after_actions}
use Rattle.acc_base.specs.Truth.{form_value}
use Rattle.acc_base.specs.Fits.{RowsFit}
use Rattle.acc_base.specs.Soundness.{adds_to, IsShared}
use Rattle.acc_oblig.specs.Naming.{named_lin}
use Rattle.acc_oblig.specs.Relations.{lin_form, negated, plus_number}
use Rattle.acc_oblig.specs.Settings.{Setting, after_naming, step_vars, step_hyps}
use Rattle.acc_oblig.specs.Drafts.{Place, path_origin, path_rels}
use Rattle.acc_oblig.specs.Ranges.{within, ActionNumber, in_range, one_action_numbers, numbers_of, action_range_in}
use Rattle.acc_oblig.proofs.Names.{lin_named}
use Rattle.acc_oblig.proofs.FormValues.{int_le_holds, lin_form_value, negated_value, plus_value}
use Rattle.acc_oblig.proofs.Reading.{read_values}
use Rattle.acc_oblig.proofs.Carries.{carried_long}
use Rattle.acc_oblig.proofs.Walks.{values_long}
use Rattle.acc_oblig.proofs.Judged.{DraftTrue, goals_true}
use Rattle.acc_oblig.proofs.Taken.{IsOn, E, setting, after_agrees, hyps_true, rels_true}
use Rattle.acc_oblig.proofs.Listed.{all_front, all_back}
use Rattle.acc_oblig.proofs.ReadRanges.{abs_within, small_test}

module _ (env : List ℤ) where
  -- a number stays as near to 0 as it may be
  abbrev pub Stays : ActionNumber → Type 0
  Stays m = unsigned_abs (lin_value env m.value) ≤ m.most

  all_in : (ls : List Lin) → AllByRecursion Stays (map in_range ls) → list_all is_small (lin_values env ls) ≡ true
  all_in [] h = refl
  all_in (l ∷ ls) h = λ i. small_test (lin_value env l) h.0 i && all_in ls h.1 i

  both : (xs ys : List ℤ) → list_all is_small xs ≡ true → list_all is_small ys ≡ true → list_all is_small (xs ++ ys) ≡ true
  both xs ys h g = list_all-append is_small xs ys ∙ (λ i. h i && g i)

  one_in :
      (all : List Action) (a : Action) → AllByRecursion Stays (one_action_numbers all a) → list_all is_small (action_numbers env a) ≡ true
  one_in all (action.Put t k vs) h =
      both (lin_values env k) (lin_values env vs) (all_in k (all_front Stays (map in_range k) _ h))
      (all_in vs (all_back Stays (map in_range k) _ h))
  one_in all (action.Del t k) h = all_in k h
  one_in all (action.Set t k c v) h =
      both (lin_values env k) (lin_value env v ∷ []) (all_in k (all_front Stays (map in_range k) _ h))
      (λ i. small_test (lin_value env v) (all_back Stays (map in_range k) _ h).0 i && true)
  one_in all (action.Add t k c v) h =
      let n = count_by (adds_to t c) all in
      let few = div-le_self (2 ^ 45) n in
      let near = (all_back Stays (map in_range k) _ h).0 in
      let small : IsSmall (lin_value env v) = omega (arith, few, near) in
      both (lin_values env k) (lin_value env v ∷ []) (all_in k (all_front Stays (map in_range k) _ h))
      (λ i. small_test (lin_value env v) small i && true)

  -- the actions of an undo path go on
  pub actions_stay :
      (all acts : List Action) (db : List Row) → AllByRecursion Stays (numbers_of all acts)
      → (after : List Row) × (after_actions Undo env acts db ≡ Some after)
  actions_stay all [] db h = (db, refl)
  actions_stay all (a ∷ rest) db h =
      let here = one_in all a (all_front Stays (one_action_numbers all a) _ h) in
      let more = actions_stay all rest (after_action env a db) (all_back Stays (one_action_numbers all a) _ h) in
      (more.0, ap (λ b. if b && true then after_actions Undo env rest (after_action env a db) else None) here ∙ more.1)

  one_shared : (all : List Action) (a : Action) → AllByRecursion Stays (one_action_numbers all a) → IsShared env all a
  one_shared all (action.Put t k vs) h = tt
  one_shared all (action.Del t k) h = tt
  one_shared all (action.Set t k c v) h = tt
  one_shared all (action.Add t k c v) h = (all_back Stays (map in_range k) _ h).0

  pub actions_shared : (all acts : List Action) → AllByRecursion Stays (numbers_of all acts) → AllByRecursion (IsShared env all) acts
  actions_shared all [] h = tt
  actions_shared all (a ∷ rest) h = (
    one_shared all a (all_front Stays (one_action_numbers all a) _ h),
    actions_shared all rest (all_back Stays (one_action_numbers all a) _ h),
  )

-- ---- a number whose obligation is true

module _ (d : Design) (db : List Row) (fit : RowsFit d db) (f : Frame) (p : Point) (step : Step) (last : Reading) (j : ℕ) (path : Path)
    (on : IsOn d db f p step last j path) where
  abbrev s : Setting
  s = setting d db f p step last j path on

  abbrev F : List ℤ
  F = E d db f p step last j path on []

  long : step_vars s ≡ length F
  long =
      let l = carried_long f (read_values db f (unread f) step.reads) [] in
      let v = values_long db f step.reads (unread f) in
      omega (arith, l, v)

  not_empty : Ranges ≢ Empty
  not_empty h = cc

  not_begins : Ranges ≢ Begins
  not_begins h = cc

  pub number_stays :
      (k : ℕ) (w : Place) (m : ActionNumber) → AllByRecursion (DraftTrue d) (action_range_in k w s (step_vars s) m)
      → Stays (variables f.t last.locals) m
  number_stays k w m h =
      let n = after_naming s (length F) in
      let v = lin_form (named_lin n m.value) in
      let worth = lin_form_value db F (named_lin n m.value)
      ∙ lin_named n F (variables f.t last.locals) (after_agrees d db f p step last j path on []) m.value in
      let goals = goals_true d db F fit (path_origin Ranges None k w)
      (λ q. record { empty = λ z. absurd (not_empty z); fresh = λ z. absurd (not_begins z) }) (length F) refl (step_hyps s (length F))
      (hyps_true d db f p step last j path on []) (path_rels s (length F)) (rels_true d db f p step last j path on []) false 1
      (within v m.most) (subst (λ vars. AllByRecursion (DraftTrue d) (action_range_in k w s vars m)) long h) in
      let up = int_le_holds (form_value db F (plus_number v (neg_ℤ (pos m.most)))) (pos 0) goals.0 in
      let down = int_le_holds (form_value db F (plus_number (negated v) (neg_ℤ (pos m.most)))) (pos 0) goals.1.0 in
      subst (λ z. unsigned_abs z ≤ m.most) worth
      (abs_within (form_value db F v) m.most (subst (λ z. z ≤ℤ pos 0) (plus_value db F v (neg_ℤ (pos m.most))) up)
      (subst (λ z. z ≤ℤ pos 0) (plus_value db F (negated v) (neg_ℤ (pos m.most)) ∙ ap (λ z. z +ℤ neg_ℤ (pos m.most)) (negated_value db F v))
      down))
