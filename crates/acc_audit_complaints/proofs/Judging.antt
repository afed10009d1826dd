-- What a complaint about a clause tells of its truth, and what none tells.
use Rattle.std.proofs.Common.{◌≡◌, ℕ, suc, ◌+◌, Bool, true, false, ◌||◌, List, [], ◌∷◌, ◌++◌, length, map, drop}
use Rattle.std.proofs.Common.{Option, Some, None, refl, sym, ap, ◌∙◌, ℤ, subst, arith, slice_get, if◌then◌else◌, ◌^◌, ◌<ℤ◌}
use Rattle.std.specs.Prelude.{nat_le}
use Rattle.std.specs.List.{flat_map, list_any, AllByRecursion}
use Rattle.std.specs.Ordering.{int_cmp, is_eq, MatchOrdering}
use Rattle.std.specs.declared.cmp.Ordering.{Ordering}
use Rattle.std.specs.declared.cmp.Ordering.TheVariants.{Less, Equal, Greater}
use Rattle.std.specs.Cmp.{int_ranks}
use Rattle.std.proofs.lemmas.Bool.{false≢true}
use Rattle.std.proofs.lemmas.Option.{none-some, same_Some}
use Rattle.acc_base.specs.declared.tables.Row.{Row}
use Rattle.acc_base.specs.declared.forms.Clause.{Clause}
use Rattle.acc_audit_ranges.specs.Ranges.{same, is_in_range}
use Rattle.acc_audit_trial.specs.declared.trials.Trial.{Trial}
use Rattle.acc_audit_trial.specs.declared.trials.Trial.TheVariants as trial
use Rattle.acc_audit_trial.specs.Trials.{trial_of, FailsAt, HoldsAt, TellsTruth}
use Rattle.acc_audit_trial.proofs.Truths.{trial_tells}
use Rattle.acc_audit_complaints.specs.declared.searches.Complaint.{Complaint}
use Rattle.acc_audit_complaints.specs.declared.searches.Complaint.TheVariants.{False, Large}
use Rattle.acc_audit_complaints.specs.Tuples.{tuples}
use Rattle.acc_audit_complaints.specs.Complaints.{after_trial, first_bad, Judges}
use Rattle.acc_audit_complaints.proofs.Counting.{cons_all}

-- ---- what all tuples have

all_both : {X : Type 0} (P : X → Type 0) (xs ys : List X) → AllByRecursion P xs → AllByRecursion P ys → AllByRecursion P (xs ++ ys)
all_both P [] ys a b = b
all_both P (x ∷ xs) ys a b = (a.0, all_both P xs ys a.1 b)

all_first : {X : Type 0} (P : X → Type 0) (xs ys : List X) → AllByRecursion P (xs ++ ys) → AllByRecursion P xs
all_first P [] ys a = tt
all_first P (x ∷ xs) ys a = (a.0, all_first P xs ys a.1)

all_second : {X : Type 0} (P : X → Type 0) (xs ys : List X) → AllByRecursion P (xs ++ ys) → AllByRecursion P ys
all_second P [] ys a = a
all_second P (x ∷ xs) ys a = all_second P xs ys a.1

all_consed : (P : List ℤ → Type 0) (x : ℤ) (rest : List (List ℤ)) → AllByRecursion (λ own. P (x ∷ own)) rest →
    AllByRecursion P (cons_all rest x)
all_consed P x [] a = tt
all_consed P x (own ∷ rest) a = (a.0, all_consed P x rest a.1)

all_unconsed : (P : List ℤ → Type 0) (x : ℤ) (rest : List (List ℤ)) → AllByRecursion P (cons_all rest x) →
    AllByRecursion (λ own. P (x ∷ own)) rest
all_unconsed P x [] a = tt
all_unconsed P x (own ∷ rest) a = (a.0, all_unconsed P x rest a.1)

abbrev IsLong : ℕ → List ℤ → Type 0
IsLong n own = length own ≡ n

longer : (n : ℕ) (rest : List (List ℤ)) (x : ℤ) → AllByRecursion (IsLong n) rest → AllByRecursion (λ own. IsLong (suc n) (x ∷ own)) rest
longer n [] x a = tt
longer n (own ∷ rest) x a = (ap suc a.0, longer n rest x a.1)

all_long_in : (n : ℕ) (rest : List (List ℤ)) → AllByRecursion (IsLong n) rest → (r : List ℤ) →
    AllByRecursion (IsLong (suc n)) (flat_map (cons_all rest) r)
all_long_in n rest a [] = tt
all_long_in n rest a (x ∷ r) =
    all_both (IsLong (suc n)) (cons_all rest x) (flat_map (cons_all rest) r)
    (all_consed (IsLong (suc n)) x rest (longer n rest x a)) (all_long_in n rest a r)

-- each tuple has one value of each range
all_long : (ranges : List (List ℤ)) → AllByRecursion (IsLong (length ranges)) (tuples ranges)
all_long [] = (refl, tt)
all_long (r ∷ rs) = all_long_in (length rs) (tuples rs) (all_long rs) r

-- ---- a tuple of values of the ranges is among them

-- a value of each range
abbrev Picks : List (List ℤ) → List ℤ → Type 0
Picks [] [] = Unit {0}
Picks [] (x ∷ own) = ⊥
Picks (r ∷ rs) [] = ⊥
Picks (r ∷ rs) (x ∷ own) = (list_any (same x) r ≡ true) × Picks rs own

same_is : (x y : ℤ) → same x y ≡ true → y ≡ x
same_is x y = by (int_cmp x y) (int_ranks x y)
  where
    by : (o : Ordering) → MatchOrdering o (x <ℤ y) (x ≡ y) (y <ℤ x) → is_eq o ≡ true → y ≡ x
    by Less e h = absurd (false≢true h)
    by Equal e h = sym e
    by Greater e h = absurd (false≢true h)

module _ (P : List ℤ → Type 0) (rest : List (List ℤ)) (x : ℤ) where
  at_value : (r : List ℤ) → AllByRecursion P (flat_map (cons_all rest) r) → list_any (same x) r ≡ true →
      AllByRecursion (λ own. P (x ∷ own)) rest
  at_value [] a h = absurd (false≢true h)
  at_value (y ∷ r) a h =
      by (same x y) refl h (at_value r (all_second P (cons_all rest y) (flat_map (cons_all rest) r) a))
    where
      by : (b : Bool) → same x y ≡ b → (b || list_any (same x) r) ≡ true →
          (list_any (same x) r ≡ true → AllByRecursion (λ own. P (x ∷ own)) rest) → AllByRecursion (λ own. P (x ∷ own)) rest
      by true e h ih =
          subst (λ z. AllByRecursion (λ own. P (z ∷ own)) rest) (same_is x y e)
          (all_unconsed P y rest (all_first P (cons_all rest y) (flat_map (cons_all rest) r) a))
      by false e h ih = ih h

at_tuple : (P : List ℤ → Type 0) (ranges : List (List ℤ)) (own : List ℤ) → AllByRecursion P (tuples ranges) → Picks ranges own → P own
at_tuple P [] [] a h = a.0
at_tuple P [] (x ∷ own) a h = absurd h
at_tuple P (r ∷ rs) [] a h = absurd h
at_tuple P (r ∷ rs) (x ∷ own) a h =
    at_tuple (λ rest. P (x ∷ rest)) rs own (at_value P (tuples rs) x r a h.0) h.1

picks : (ranges : List (List ℤ)) (own : List ℤ) → length ranges ≡ length own →
    ((i : ℕ) (r : List ℤ) (x : ℤ) → slice_get ranges i ≡ Some r → slice_get own i ≡ Some x → list_any (same x) r ≡ true) → Picks ranges own
picks [] [] long each = tt
picks [] (x ∷ own) long each = absurd (omega (arith, long))
picks (r ∷ rs) [] long each = absurd (omega (arith, long))
picks (r ∷ rs) (x ∷ own) long each =
    (each 0 r x refl refl, picks rs own (omega (arith, long)) (λ i s y a b. each (suc i) s y a b))

-- ---- a clause

module _ (db : List Row) (env : List ℤ) (c : Clause) where
  abbrev search : List (List ℤ) → Option Complaint
  search owns = first_bad db c (length env) (map (λ own. env ++ own) owns)

  own_part : (env own : List ℤ) → drop (length env) (env ++ own) ≡ own
  own_part [] own = refl
  own_part (x ∷ env) own = own_part env own

  tells_at : (own : List ℤ) (t : Trial) → trial_of db (env ++ own) c ≡ t → TellsTruth db (env ++ own) c t
  tells_at own t e = subst (TellsTruth db (env ++ own) c) e (trial_tells db (env ++ own) c)

  -- the first that fails
  pub record Fails (P : List ℤ → Type 0) (own : List ℤ) : Type 0 where
    pub is : P own
    pub fails : FailsAt db (env ++ own) c

  found : (P : List ℤ → Type 0) (owns : List (List ℤ)) (own : List ℤ) → AllByRecursion P owns → search owns ≡ Some (False own) → Fails P own
  found P [] own a h = absurd (none-some (False own) h)
  found P (x ∷ owns) own a h = by (trial_of db (env ++ x) c) refl h (found P owns own a.1)
    where
      values : Complaint → List ℤ
      values (False v) = v
      values Large = []

      by : (t : Trial) → trial_of db (env ++ x) c ≡ t → after_trial (drop (length env) (env ++ x)) t (search owns) ≡ Some (False own) →
          (search owns ≡ Some (False own) → Fails P own) → Fails P own
      by trial.Holds e h ih = ih h
      by trial.Fails e h ih =
          let same : x ≡ own = sym (own_part env x) ∙ ap values (same_Some (False (drop (length env) (env ++ x))) (False own) h) in
          subst (Fails P) same (record { is = a.0; fails = tells_at x trial.Fails e })
      by trial.Large e h ih = let k = same_Some Large (False own) h in absurd cc

  none : (owns : List (List ℤ)) → search owns ≡ None → AllByRecursion (λ own. HoldsAt db (env ++ own) c) owns
  none [] h = tt
  none (x ∷ owns) h = by (trial_of db (env ++ x) c) refl h (none owns)
    where
      by : (t : Trial) → trial_of db (env ++ x) c ≡ t → after_trial (drop (length env) (env ++ x)) t (search owns) ≡ None →
          (search owns ≡ None → AllByRecursion (λ own. HoldsAt db (env ++ own) c) owns) →
          AllByRecursion (λ own. HoldsAt db (env ++ own) c) (x ∷ owns)
      by trial.Holds e h ih = (tells_at x trial.Holds e, ih h)
      by trial.Fails e h ih = absurd (none-some (False (drop (length env) (env ++ x))) (sym h))
      by trial.Large e h ih = absurd (none-some Large (sym h))

  -- a complaint that it is false shows it
  pub false_shown : (own : List ℤ) → Judges db env c (Some (False own)) → Fails (λ o. length o ≡ length c.vars) own
  false_shown own j = by (nat_le (length (tuples j.ranges)) (2 ^ 20)) (sym j.tells)
    where
      by : (b : Bool) → (if b then search (tuples j.ranges) else Some Large) ≡ Some (False own) → Fails (λ o. length o ≡ length c.vars) own
      by true h =
          let f = found (IsLong (length j.ranges)) (tuples j.ranges) own (all_long j.ranges) h in
          record { is = f.is ∙ j.are_ranges.each_has; fails = f.fails }
      by false h = let k = same_Some Large (False own) h in absurd cc

  -- where nothing is wrong it is true at all values of its ranges
  pub none_false : Judges db env c None → (own : List ℤ) → length own ≡ length c.vars →
      ((i : ℕ) (x : ℤ) → slice_get own i ≡ Some x → is_in_range db env c (length env + i) x ≡ true) → HoldsAt db (env ++ own) c
  none_false j own long in_ranges = by (nat_le (length (tuples j.ranges)) (2 ^ 20)) (sym j.tells)
    where
      by : (b : Bool) → (if b then search (tuples j.ranges) else Some Large) ≡ None → HoldsAt db (env ++ own) c
      by false h = absurd (none-some Large (sym h))
      by true h =
          at_tuple (λ o. HoldsAt db (env ++ o) c) j.ranges own (none (tuples j.ranges) h)
          (picks j.ranges own (j.are_ranges.each_has ∙ sym long)
          (λ i r x a b. (j.are_ranges.each i r a).each x ∙ in_ranges i x b))
