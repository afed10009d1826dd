-- Where the obligations on the numbers of reads are true, the reads of an undo step stay in range.
use Rattle.std.proofs.Common.{◌≡◌, ◌≢◌, ℕ, ◌+◌, ◌^◌, ◌≤◌, Bool, true, false, if◌then◌else◌, List, [], ◌∷◌, ◌++◌, map, length, set, refl, ap}
use Rattle.std.proofs.Common.{sym}
use Rattle.std.proofs.Common.{◌∙◌, subst, arith, Some, None, ℤ, pos, neg_ℤ, ◌+ℤ◌, ◌*ℤ◌, ◌≤ℤ◌}
use Rattle.std.specs.Prelude.{unsigned_abs, ◌&&◌, option_and_then}
use Rattle.std.specs.List.{list_all, AllByRecursion}
use Rattle.std.proofs.Math.Seq.{get_or-append_seam}
use Rattle.std.proofs.lemmas.Int.{ints}
use Rattle.std.proofs.lemmas.Bool.Decides.{nat_tests}
use Rattle.std.proofs.lemmas.List.{append-nil, map-append, map-set}
use Rattle.acc_base.specs.declared.tables.Row.{Row}
use Rattle.acc_base.specs.declared.forms.Lin.{Lin}
use Rattle.acc_base.specs.declared.forms.Clause.{Clause}
use Rattle.acc_base.specs.declared.steps.Read.{Read}
use Rattle.acc_base.specs.declared.designs.At.{At}
use Rattle.acc_base.specs.declared.designs.Design.{Design}
use Rattle.acc_base.specs.declared.machines.Frame.{Frame}
use Rattle.acc_base.specs.declared.sequents.Rule.TheVariants.{Begins, Ranges, Empty}
use Rattle.acc_base.specs.Numbers.{is_small, IsSmall}
use Rattle.acc_base.specs.Linear.{var, variables, lin_value, lin_values}
use Rattle.acc_base.specs.Reads.{Reading, unread, assigned, read_key, read_value, after_read, after_reads}
use Rattle.acc_base.specs.Truth.{form_value, rel_true, ClauseTrue}
use Rattle.acc_preconditions.proofs.Alls.{all-append}
use Rattle.acc_base.specs.Fits.{RowsFit}
use Rattle.acc_base.specs.Items.{numbers_from}
use Rattle.acc_oblig.specs.declared.naming.Naming.{Naming}
use Rattle.acc_oblig.specs.Naming.{named_lin}
use Rattle.acc_oblig.specs.Relations.{negated, plus_number}
use Rattle.acc_oblig.specs.Settings.{Setting, with_self, first_now, step_vars, step_bounds, step_rels, step_hyps, all_read_rels}
use Rattle.acc_oblig.specs.Drafts.{goal_drafts}
use Rattle.acc_oblig.specs.Ranges.{within, ReadNumber, value_asked, key_number, value_number, read_numbers, read_origin, read_range_in}
use Rattle.acc_oblig.specs.Ranges.{setting_numbers}
use Rattle.acc_oblig.proofs.Names.{Agrees, AgreesBehind, lin_named}
use Rattle.acc_oblig.proofs.FormValues.{int_le_holds, lin_form_value, negated_value, plus_value, is_at_most_bound_true, is_number_true}
use Rattle.acc_oblig.proofs.Reading.{read_on, read_values}
use Rattle.acc_oblig.proofs.ReadRels.{HasDivisor}
use Rattle.acc_oblig.proofs.Carries.{Carries, carried, carried_long, carries, carries_near, carries_more, with_number}
use Rattle.acc_oblig.proofs.Walks.{LooksBelow, TrueRel, bounds_true, ReadsTrue, near_agrees, here_agrees, reads_true, values_long}
use Rattle.acc_oblig.proofs.Judged.{DraftTrue, goals_true, passes, passes_append}
use Rattle.acc_oblig.proofs.Taken.{all_named, behind_all}
use Rattle.acc_oblig.proofs.Listed.{all_front, all_back}
use Rattle.acc_oblig.proofs.RowNumbers.{given_small}
use Rattle.acc_oblig.proofs.Counting.{numbers_more}
use Rattle.acc_preconditions.proofs.PartValues.{one_times}

-- a value within bounds
pub abs_within : (v : ℤ) (n : ℕ) → (v +ℤ neg_ℤ (pos n)) ≤ℤ pos 0 → (neg_ℤ v +ℤ neg_ℤ (pos n)) ≤ℤ pos 0 → unsigned_abs v ≤ n
abs_within v n h g = grind (arith, ints)

pub small_test : (v : ℤ) → IsSmall v → is_small v ≡ true
small_test v h = grind (arith, nat_tests)

pub record CanRest (d : Design) (db : List Row) (f : Frame) (clauses : List Clause) (rs : List Read) : Type 0 where
  pub always : AllByRecursion (ClauseTrue db []) d.always
  pub holds : AllByRecursion (ClauseTrue db (variables f.t f.locals)) clauses
  pub small : AllByRecursion IsSmall f.locals
  pub first : 1 ≤ f.t
  pub number : f.t ≤ 2 ^ 45
  pub divisors : AllByRecursion HasDivisor rs
  pub looks : AllByRecursion (LooksBelow db) rs

module _ (d : Design) (db : List Row) (fit : RowsFit d db) (f : Frame) (clauses : List Clause) (all_reads : List Read)
    (can : CanRest d db f clauses all_reads) where
  abbrev vs : List ℤ
  vs = read_values db f (unread f) all_reads

  abbrev pub E : List ℤ
  E = carried f vs []

  abbrev pub s : Setting
  s = record { always = d.always; clauses = clauses; locals = length f.locals; reads = all_reads; earlier = []; guard = []; actions = [] }

  near : (own : List ℤ) → length own ≤ 1 → Carries f vs (E ++ own) (length E + 1)
  near own few = carries_near f vs [] own few

  here : Carries f vs E (length E + 1)
  here = carries f vs [] (length E + 1) (omega arith)

  values : (F : List ℤ) (past : ℕ) → Carries f vs F past → map (var F) (numbers_from (length f.locals + 1) (length all_reads)) ≡ vs
  values F past c = subst (λ m. map (var F) (numbers_from (length f.locals + 1) m) ≡ vs) (values_long db f all_reads (unread f)) c.values

  own_worth : (m : ℤ) → var (E ++ m ∷ []) (length E) ≡ m
  own_worth m = get_or-append_seam E m [] (pos 0)

  along : ReadsTrue db E (length f.locals) (length E) (first_now s) (length f.locals + 1) all_reads
  along =
      reads_true db f vs E near own_worth (first_now s) (length f.locals + 1) all_reads (unread f) (λ own few. (near own few).locals)
      (λ own few. values (E ++ own) (length E + 1) (near own few)) can.divisors can.looks

  before_behind : AgreesBehind (first_now s ++ length f.locals ∷ []) (length E) E (variables f.t f.locals)
  before_behind own =
      let c = carries_more f vs [] own in
      behind_all (first_now s ++ length f.locals ∷ []) E (variables f.t f.locals) own
      (with_number f vs (E ++ own) _ c (first_now s) f.locals c.locals)

  always_behind : AgreesBehind [] (length E) E []
  always_behind own = behind_all [] E [] own refl

  hyps_true : AllByRecursion (ClauseTrue db E) (step_hyps s (length E))
  hyps_true =
      all-append (ClauseTrue db E) _ _ (all_named [] (length E) E [] always_behind db d.always can.always)
      (all-append (ClauseTrue db E) _ _ (all_named (first_now s ++ length f.locals ∷ []) (length E) E (variables f.t f.locals) before_behind
      db clauses can.holds) (all-append (ClauseTrue db E) _ _ along.hyps tt))

  me_small : IsSmall (var E (length f.locals))
  me_small = subst IsSmall (sym here.me) can.number

  bounds :
      (i : ℕ) → AllByRecursion IsSmall (map (var E) (numbers_from (length f.locals + 1) i)) → AllByRecursion (TrueRel db E)
      (step_bounds s i)
  bounds i h =
      all-append (TrueRel db E) _ _ (all-append (TrueRel db E) _ _
      (bounds_true db E (first_now s) (subst (AllByRecursion IsSmall) (sym here.locals) can.small))
      (is_at_most_bound_true db E (length f.locals) me_small, (is_number_true db E (length f.locals) f.t here.me can.first, tt)))
      (bounds_true db E (numbers_from (length f.locals + 1) i) h)

  not_empty : Ranges ≢ Empty
  not_empty h = cc

  not_begins : Ranges ≢ Begins
  not_begins h = cc

  -- a number whose obligation is true is within the range, where the reads before it are
  abbrev pub NumberTrue : ReadNumber → Type 0
  NumberTrue m =
      m.asked ≡ true → AllByRecursion IsSmall (map (var E) (numbers_from (length f.locals + 1) m.bounded)) → IsSmall
      (form_value db E m.value)

  pub number_true : (k : ℕ) (at : At) (m : ReadNumber) → AllByRecursion (DraftTrue d) (read_range_in k at s (length E) m) → NumberTrue m
  number_true k at m h asked before =
      let drafts = subst (λ b. AllByRecursion (DraftTrue d)
      (if b then goal_drafts (read_origin k at) (length E) (step_hyps s (length E)) (step_bounds s m.bounded ++ step_rels s (length E))
      false 1 (within m.value (2 ^ 45)) else [])) asked h in
      let rels = passes_append (rel_true db E) (step_bounds s m.bounded) (step_rels s (length E))
      (passes (rel_true db E) _ (bounds m.bounded before))
      (passes_append (rel_true db E) (all_read_rels (length f.locals) (length E) (first_now s) (length f.locals + 1) all_reads) []
      (passes (rel_true db E) _ along.rels) refl) in
      let goals = goals_true d db E fit (read_origin k at)
      (λ q. record { empty = λ z. absurd (not_empty z); fresh = λ z. absurd (not_begins z) })
      (length E) refl (step_hyps s (length E)) hyps_true (step_bounds s m.bounded ++ step_rels s (length E)) rels false 1
      (within m.value (2 ^ 45)) drafts in
      let up = int_le_holds (form_value db E (plus_number m.value (neg_ℤ (pos (2 ^ 45))))) (pos 0) goals.0 in
      let down = int_le_holds (form_value db E (plus_number (negated m.value) (neg_ℤ (pos (2 ^ 45))))) (pos 0) goals.1.0 in
      abs_within (form_value db E m.value) (2 ^ 45) (subst (λ z. z ≤ℤ pos 0) (plus_value db E m.value (neg_ℤ (pos (2 ^ 45)))) up)
      (subst (λ z. z ≤ℤ pos 0) (plus_value db E (negated m.value) (neg_ℤ (pos (2 ^ 45)))
      ∙ ap (λ z. z +ℤ neg_ℤ (pos (2 ^ 45))) (negated_value db E m.value)) down)

  -- ---- along the reads

  keys_small :
      (n : Naming) (e : List ℤ) → Agrees n E e → (i : ℕ) → AllByRecursion IsSmall (map (var E) (numbers_from (length f.locals + 1) i))
      → (ls : List Lin) → AllByRecursion NumberTrue (map (key_number n i) ls) → list_all is_small (lin_values e ls) ≡ true
  keys_small n e agree i before [] h = refl
  keys_small n e agree i before (l ∷ ls) h =
      let v = subst IsSmall (lin_form_value db E (named_lin n l) ∙ lin_named n E e agree l) (h.0 refl before) in
      λ j. small_test (lin_value e l) v j && keys_small n e agree i before ls h.1 j

  value_of : (v : ℤ) → (pos 1 *ℤ v +ℤ pos 0) +ℤ pos 0 ≡ v
  value_of v = let e = one_times v in omega (arith, ints, e)

  value_small :
      (x i : ℕ) (z : Reading) (r : Read) → var E x ≡ read_value db f.tape z.at (variables f.t z.locals) r
      → AllByRecursion IsSmall (map (var E) (numbers_from (length f.locals + 1) i)) → NumberTrue (value_number x i r)
      → IsSmall (read_value db f.tape z.at (variables f.t z.locals) r)
  value_small x i z r worth before h = by (value_asked r) refl
    where
      by : (b : Bool) → value_asked r ≡ b → IsSmall (read_value db f.tape z.at (variables f.t z.locals) r)
      by true e = subst IsSmall (value_of (var E x) ∙ worth) (h e before)
      by false e = given_small d db fit f.tape z.at (variables f.t z.locals) r e

  abbrev head : List ℤ → ℤ
  head [] = pos 0
  head (y ∷ ys) = y

  abbrev tail : List ℤ → List ℤ
  tail [] = []
  tail (y ∷ ys) = ys

  set_worth :
      (F : List ℤ) (now : List ℕ) (x : ℕ) (q : Read) (z : Reading) → map (var F) now ≡ z.locals
      → var F x ≡ read_value db f.tape z.at (variables f.t z.locals) q → map (var F) (set now (assigned q) x) ≡ (read_on db f z q).locals
  set_worth F now x q z a b = map-set (var F) now (assigned q) x ∙ (λ i. set (a i) (assigned q) (b i))

  pub reads_stay :
      (now : List ℕ) (x i : ℕ) (rs : List Read) (z : Reading) → ((own : List ℤ) → length own ≤ 1 → map (var (E ++ own)) now ≡ z.locals)
      → ((own : List ℤ) → length own ≤ 1 → map (var (E ++ own)) (numbers_from x (length rs)) ≡ read_values db f z rs)
      → x ≡ length f.locals + 1 + i → AllByRecursion IsSmall (map (var E) (numbers_from (length f.locals + 1) i))
      → AllByRecursion NumberTrue (read_numbers (length f.locals) (length E) now x i rs)
      → (last : Reading) × (after_reads db f rs z ≡ Some last)
  reads_stay now x i [] z h g place before numbers = (z, refl)
  reads_stay now x i (r ∷ rs) z h g place before numbers =
      let n = with_self now (length f.locals) (length E + 1) in
      let agree = here_agrees db f vs E near own_worth n (variables f.t z.locals) (near_agrees db f vs E near own_worth now z.locals h) in
      let here_x : (own : List ℤ) → length own ≤ 1
      → var (E ++ own) x ≡ read_value db f.tape z.at (variables f.t z.locals) r = λ own few. ap head (g own few) in
      let at_x : var E x ≡ read_value db f.tape z.at (variables f.t z.locals) r =
      subst (λ y. var y x ≡ read_value db f.tape z.at (variables f.t z.locals) r) (append-nil E) (here_x [] (omega arith)) in
      let mine = all_front NumberTrue (map (key_number n i) (read_key r) ++ value_number x i r ∷ []) _ numbers in
      let keys = keys_small n (variables f.t z.locals) agree i before (read_key r)
      (all_front NumberTrue (map (key_number n i) (read_key r)) _ mine) in
      let value = value_small x i z r at_x before (all_back NumberTrue (map (key_number n i) (read_key r)) _ mine).0 in
      let small : list_all is_small (read_value db f.tape z.at (variables f.t z.locals) r ∷ lin_values (variables f.t z.locals)
      (read_key r)) ≡ true = (λ j. small_test (read_value db f.tape z.at (variables f.t z.locals) r) value j && keys j) in
      let step : after_read db f z r ≡ Some (read_on db f z r) = ap (λ b. if b then Some (read_on db f z r) else None) small in
      let more : AllByRecursion IsSmall (map (var E) (numbers_from (length f.locals + 1) (i + 1))) =
      subst (AllByRecursion IsSmall)
      (sym (ap (map (var E)) (numbers_more (length f.locals + 1) i)
      ∙ map-append (var E) (numbers_from (length f.locals + 1) i) ((length f.locals + 1 + i) ∷ [])))
      (all-append IsSmall _ _ before (subst (λ m. IsSmall (var E m)) place (subst IsSmall (sym at_x) value), tt)) in
      let rest = reads_stay (set now (assigned r) x) (x + 1) (i + 1) rs (read_on db f z r)
      (λ own few. set_worth (E ++ own) now x r z (h own few) (here_x own few)) (λ own few. ap tail (g own few)) (omega (arith, place)) more
      (all_back NumberTrue (map (key_number n i) (read_key r) ++ value_number x i r ∷ []) _ numbers) in
      (rest.0, ap (option_and_then (after_reads db f rs)) step ∙ rest.1)

  pub all_stay :
      AllByRecursion NumberTrue (setting_numbers s (length E)) → (last : Reading) × (after_reads db f all_reads (unread f) ≡ Some last)
  all_stay h =
      reads_stay (first_now s) (length f.locals + 1) 0 all_reads (unread f) (λ own few. (near own few).locals)
      (λ own few. values (E ++ own) (length E + 1) (near own few)) (omega arith) tt h

  pub vars_are : step_vars s ≡ length E
  vars_are =
      let l = carried_long f vs [] in
      let v = values_long db f all_reads (unread f) in
      omega (arith, l, v)
