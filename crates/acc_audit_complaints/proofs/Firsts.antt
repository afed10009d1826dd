-- Items that are gone through, one after the other, up to the first of which something is found.
use Rattle.std.proofs.Common.{◌≡◌, ℕ, zero, suc, ◌+◌, ◌<◌, ◌≤◌, List, [], ◌∷◌, ◌++◌, length, take, drop, get_or, Option, Some, None, All}
use Rattle.std.proofs.Common.{refl, sym, ap, ◌∙◌, ℤ, subst, arith, slice_get, ◌⊎◌, inl, inr}
use Rattle.std.specs.List.{AllByRecursion}
use Rattle.std.proofs.lemmas.List.{take_more, take_all}
use Rattle.std.proofs.lemmas.List.Elements.{All-from_recursion}
use Rattle.std.proofs.lemmas.Option.{none-some, same_Some}
use Rattle.acc_base.specs.declared.tables.Row.{Row}
use Rattle.acc_base.specs.declared.forms.Clause.{Clause}
use Rattle.acc_audit_ranges.specs.Ranges.{IsRange}
use Rattle.acc_audit_complaints.specs.declared.searches.Complaint.{Complaint}
use Rattle.acc_audit_complaints.specs.Complaints.{AreRanges, Judges, IsFirstAt}
use Rattle.acc_audit_trial.proofs.Loops.{one_more}

module _ {X : Type 0} (P : X → Type 0) where
  all_with : (xs : List X) (x : X) → AllByRecursion P xs → P x → AllByRecursion P (xs ++ x ∷ [])
  all_with [] x a h = (h, tt)
  all_with (y ∷ xs) x a h = (a.0, all_with xs x a.1 h)

  pub all_taken : (xs : List X) (i : ℕ) (x d : X) → i < length xs → x ≡ get_or xs i d → AllByRecursion P (take i xs) → P x →
      AllByRecursion P (take (i + 1) xs)
  all_taken xs i x d within here a h =
      subst (AllByRecursion P) (sym (take_more xs i d within ∙ ap (λ y. take i xs ++ y ∷ []) (sym here))) (all_with (take i xs) x a h)

  pub all_of : (xs : List X) (i : ℕ) → length xs ≤ i → AllByRecursion P (take i xs) → All P xs
  all_of xs i past a = All-from_recursion P xs (subst (AllByRecursion P) (take_all i xs past) a)

-- a list around one of its items
take_back : {X : Type 0} (n : ℕ) (xs : List X) → xs ≡ take n xs ++ drop n xs
take_back zero xs = refl
take_back (suc n) [] = refl
take_back (suc n) (x ∷ xs) = ap (λ ys. x ∷ ys) (take_back n xs)

pub around : {X : Type 0} (xs : List X) (i : ℕ) (x d : X) → i < length xs → x ≡ get_or xs i d → xs ≡ take i xs ++ x ∷ drop (i + 1) xs
around xs i x d within here = take_back i xs ∙ ap (λ ys. take i xs ++ ys) (one_more xs i x d within here)

pub length_taken : {X : Type 0} (i : ℕ) (xs : List X) → i ≤ length xs → length (take i xs) ≡ i
length_taken zero xs h = refl
length_taken (suc i) [] h = absurd (omega (arith, h))
length_taken (suc i) (x ∷ xs) h = ap suc (length_taken i xs (omega (arith, h)))

-- the first clause with which something is wrong
pub first_at : (db : List Row) (env : List ℤ) (clauses : List Clause) (i : ℕ) (c d : Clause) (k : Complaint) → i < length clauses →
    c ≡ get_or clauses i d → AllByRecursion (λ x. Judges db env x None) (take i clauses) → Judges db env c (Some k) →
    IsFirstAt db env clauses (i + 1) k
first_at db env clauses i c d k within here clear tells = record {
  before = take i clauses;
  clause = c;
  behind = drop (i + 1) clauses;
  parts = around clauses i c d within here;
  number = ap (λ n. n + 1) (sym (length_taken i clauses (omega (arith, within))));
  clear = All-from_recursion (λ x. Judges db env x None) (take i clauses) clear;
  tells = tells;
}

-- ---- ranges, one after the other

pub record AreRangesOf (db : List Row) (env : List ℤ) (c : Clause) (n : ℕ) (ranges : List (List ℤ)) : Type 0 where
  pub count : length ranges ≡ n
  pub each : (i : ℕ) (r : List ℤ) → slice_get ranges i ≡ Some r → IsRange db env c (length env + i) r

last_or_before : {X : Type 0} (xs : List X) (x y : X) (i : ℕ) → slice_get (xs ++ x ∷ []) i ≡ Some y →
    (slice_get xs i ≡ Some y) ⊎ ((i ≡ length xs) × (x ≡ y))
last_or_before [] x y zero h = inr (refl, same_Some x y h)
last_or_before [] x y (suc i) h = absurd (none-some y h)
last_or_before (z ∷ xs) x y zero h = inl h
last_or_before (z ∷ xs) x y (suc i) h = by (last_or_before xs x y i h)
  where
    by : (slice_get xs i ≡ Some y) ⊎ ((i ≡ length xs) × (x ≡ y)) →
        (slice_get (z ∷ xs) (suc i) ≡ Some y) ⊎ ((suc i ≡ length (z ∷ xs)) × (x ≡ y))
    by (inl g) = inl g
    by (inr g) = inr (ap suc g.0, g.1)

length_with : {X : Type 0} (xs : List X) (x : X) → length (xs ++ x ∷ []) ≡ length xs + 1
length_with xs x = let a = Rattle.std.proofs.Common.length-append xs (x ∷ []) in omega (arith, a)

pub no_ranges : (db : List Row) (env : List ℤ) (c : Clause) → AreRangesOf db env c 0 []
no_ranges db env c = record { count = refl; each = λ i r h. absurd (none-some r h) }

pub one_range_more : (db : List Row) (env : List ℤ) (c : Clause) (n v : ℕ) (ranges : List (List ℤ)) (r : List ℤ) →
    AreRangesOf db env c n ranges → v ≡ length env + n → IsRange db env c v r → AreRangesOf db env c (n + 1) (ranges ++ r ∷ [])
one_range_more db env c n v ranges r a is range = record {
  count = length_with ranges r ∙ ap (λ k. k + 1) a.count;
  each = λ i s h. by i s (last_or_before ranges r s i h);
}
  where
    by : (i : ℕ) (s : List ℤ) → (slice_get ranges i ≡ Some s) ⊎ ((i ≡ length ranges) × (r ≡ s)) → IsRange db env c (length env + i) s
    by i s (inl h) = a.each i s h
    by i s (inr h) =
        let place : v ≡ length env + i = is ∙ ap (λ k. length env + k) (sym a.count ∙ sym h.0) in
        subst (λ k. IsRange db env c k s) place (subst (IsRange db env c v) h.1 range)

pub all_ranges : (db : List Row) (env : List ℤ) (c : Clause) (n : ℕ) (ranges : List (List ℤ)) → n ≡ length c.vars →
    AreRangesOf db env c n ranges → AreRanges db env c ranges
all_ranges db env c n ranges is a = record { each_has = a.count ∙ is; each = a.each }
