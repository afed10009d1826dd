-- What the reads of a least and a greatest component make true.
use Rattle.std.proofs.Common.{◌≡◌, ◌⊎◌, ℕ, ◌≤◌, Bool, true, List, [], ◌∷◌, ◌++◌, length, ap, sym, ◌∙◌, subst, arith, ℤ, pos, negsuc, ◌+ℤ◌}
use Rattle.std.proofs.Common.{◌*ℤ◌, ◌<ℤ◌, ◌≤ℤ◌}
use Rattle.std.specs.Prelude.{◌&&◌, codes}
use Rattle.std.specs.List.{AllByRecursion}
use Rattle.std.specs.Int.{int_min, int_max}
use Rattle.std.specs.Cmp.{first_so, second_so}
use Rattle.std.proofs.lemmas.Int.{ints}
use Rattle.acc_base.specs.declared.tables.Row.{Row}
use Rattle.acc_base.specs.declared.forms.Lin.{Lin}
use Rattle.acc_base.specs.declared.forms.Rel.{Rel}
use Rattle.acc_base.specs.Tables.{count_of, is_under, best, least_of, greatest_of}
use Rattle.acc_base.specs.Linear.{var, lin_value, lin_values}
use Rattle.acc_base.specs.Truth.{rel_true, ClauseTrue}
use Rattle.acc_preconditions.proofs.PartValues.{one_times, minus_times}
use Rattle.acc_oblig.specs.declared.naming.Naming.{Naming}
use Rattle.acc_oblig.specs.Naming.{named_lins}
use Rattle.acc_oblig.specs.Relations.{some_rows, no_rows, none_there, is_nothing, alone, is_less, extreme}
use Rattle.acc_oblig.proofs.Names.{AgreesNear, lins_named}
use Rattle.acc_oblig.proofs.FormValues.{int_le_true, int_le_holds, zero_meets, is_nothing_true}
use Rattle.acc_oblig.proofs.Parts.{parts, passing_is, rows_with, rows_below, HasPart, none_best, best_counts, beyond_best, min_one_of}
use Rattle.acc_oblig.proofs.Parts.{max_one_of, min_worst, max_worst}

-- ---- the relations, as what they say of the rows

module _ (db : List Row) (F : List ℤ) (t : ℕ) (p : List Lin) where
  abbrev count : ℤ
  count = count_of db t (lin_values F p)

  some_worth : (v : ℤ) → pos 1 ≤ℤ v → ((negsuc 0 *ℤ v +ℤ pos 0) +ℤ pos 1) ≤ℤ pos 0
  some_worth v h = let e = minus_times v in omega (arith, ints, h, e)

  worth_some : (v : ℤ) → ((negsuc 0 *ℤ v +ℤ pos 0) +ℤ pos 1) ≤ℤ pos 0 → pos 1 ≤ℤ v
  worth_some v h = let e = minus_times v in omega (arith, ints, h, e)

  pub some_true : pos 1 ≤ℤ count → rel_true db F (some_rows t p) ≡ true
  some_true h = int_le_true _ _ (some_worth count h)

  pub true_some : rel_true db F (some_rows t p) ≡ true → pos 1 ≤ℤ count
  true_some h = worth_some count (int_le_holds _ _ h)

  worth_none : (v : ℤ) → ((pos 1 *ℤ v +ℤ pos 0) +ℤ pos 0) ≤ℤ pos 0 → v ≤ℤ pos 0
  worth_none v h = let e = one_times v in omega (arith, ints, h, e)

  pub true_none : rel_true db F (no_rows t p) ≡ true → count ≤ℤ pos 0
  true_none h = worth_none count (int_le_holds _ _ h)

  none_worth : (v : ℤ) → v ≡ pos 0 → (pos 1 *ℤ v +ℤ pos 0) +ℤ pos 0 ≡ pos 0
  none_worth v h = let e = one_times v in omega (arith, ints, h, e)

  pub none_true : count ≡ pos 0 → rel_true db F (none_there t p) ≡ true
  none_true h = zero_meets _ (none_worth count h)

below_worth : (x y : ℤ) → ((pos 1 *ℤ x +ℤ (negsuc 0 *ℤ y +ℤ pos 0)) +ℤ pos 1) ≤ℤ pos 0 → x <ℤ y
below_worth x y h =
    let e = one_times x in
    let f = minus_times y in
    omega (arith, ints, h, e, f)

pub true_is_less : (db : List Row) (F : List ℤ) (x y : ℕ) → rel_true db F (is_less x y) ≡ true → var F x <ℤ var F y
true_is_less db F x y h = below_worth (var F x) (var F y) (int_le_holds _ _ h)

worth_below : (x y : ℤ) → x <ℤ y → ((pos 1 *ℤ x +ℤ (negsuc 0 *ℤ y +ℤ pos 0)) +ℤ pos 1) ≤ℤ pos 0
worth_below x y h =
    let e = one_times x in
    let f = minus_times y in
    omega (arith, ints, h, e, f)

pub is_less_true : (db : List Row) (F : List ℤ) (x y : ℕ) → var F x <ℤ var F y → rel_true db F (is_less x y) ≡ true
is_less_true db F x y h = int_le_true _ _ (worth_below (var F x) (var F y) h)

-- a prefix and one variable behind it
alone_value : (v : ℤ) → (pos 1 *ℤ v +ℤ pos 0) +ℤ pos 0 ≡ v
alone_value v = let e = one_times v in omega (arith, ints, e)

behind : (F : List ℤ) (p : List Lin) (x : ℕ) → lin_values F (p ++ alone x ∷ []) ≡ lin_values F p ++ var F x ∷ []
behind F [] x = ap (λ z. z ∷ []) (alone_value (var F x))
behind F (l ∷ p) x = ap (λ z. lin_value F l ∷ z) (behind F p x)

-- ---- the best component

pub record IsExtreme (Beyond : ℤ → ℤ → Type 0) (db : List Row) (t : ℕ) (p : List ℤ) (v : ℤ) : Type 0 where
  pub some : pos 1 ≤ℤ count_of db t p → pos 1 ≤ℤ count_of db t (p ++ v ∷ [])
  pub none : count_of db t p ≤ℤ pos 0 → v ≡ pos 0
  pub beyond : (k : ℤ) → pos 1 ≤ℤ count_of db t p → Beyond k v → count_of db t (p ++ k ∷ []) ≡ pos 0

module _ (pick : ℤ → ℤ → ℤ) (one_of : (x y : ℤ) → (pick x y ≡ x) ⊎ (pick x y ≡ y)) (Beyond : ℤ → ℤ → Type 0)
    (apart : (x y : ℤ) → Beyond x y → x ≡ y → ⊥) (worst : (k x y : ℤ) → Beyond k (pick x y) → (Beyond k x) × (Beyond k y)) where
  extreme_is : (db : List Row) (t : ℕ) (p : List ℤ) → AllByRecursion (HasPart t p) db → IsExtreme Beyond db t p (best pick (parts t p db))
  extreme_is db t p h =
      let v = best pick (parts t p db) in
      let passing = passing_is (is_under t p) db in
      let long = rows_below t p db h in
      record {
        some =
            λ g. let here = passing_is (is_under t (p ++ v ∷ [])) db in let at = rows_with t p v db in
            let b = best_counts pick one_of (parts t p db) (omega (arith, ints, g, passing, long)) in omega (arith, ints, here, at, b);
        none = λ g. none_best pick (parts t p db) (omega (arith, ints, g, passing, long));
        beyond =
            λ k g w. let here = passing_is (is_under t (p ++ k ∷ [])) db in let at = rows_with t p k db in
            let b = beyond_best Beyond apart pick worst k (parts t p db) w in omega (arith, ints, here, at, b);
      }

differ : (x y : ℤ) → x <ℤ y → x ≡ y → ⊥
differ x y h e = omega (arith, ints, h, e)

differ_back : (x y : ℤ) → y <ℤ x → x ≡ y → ⊥
differ_back x y h e = omega (arith, ints, h, e)

pub least_is : (db : List Row) (t : ℕ) (p : List ℤ) → AllByRecursion (HasPart t p) db → IsExtreme (λ k v. k <ℤ v) db t p (least_of db t p)
least_is db t p h = extreme_is int_min min_one_of (λ k v. k <ℤ v) differ min_worst db t p h

pub greatest_is :
    (db : List Row) (t : ℕ) (p : List ℤ) → AllByRecursion (HasPart t p) db → IsExtreme (λ k v. v <ℤ k) db t p (greatest_of db t p)
greatest_is db t p h = extreme_is int_max max_one_of (λ k v. v <ℤ k) differ_back max_worst db t p h

-- ---- the hypotheses

module _ (db : List Row) (E : List ℤ) (n : Naming) (e : List ℤ) (agree : AgreesNear n E e) (x k : ℕ) (v : ℤ)
    (worth : (own : List ℤ) → length own ≤ 1 → var (E ++ own) x ≡ v) (own_worth : (m : ℤ) → var (E ++ m ∷ []) k ≡ m) (t : ℕ) (p : List Lin)
    (Beyond : ℤ → ℤ → Type 0) (is : IsExtreme Beyond db t (lin_values e p) v) where
  abbrev q : List Lin
  q = named_lins n p

  same : (own : List ℤ) → length own ≤ 1 → lin_values (E ++ own) q ≡ lin_values e p
  same own long = lins_named n (E ++ own) e (agree own long) p

  counted_same : (own : List ℤ) → length own ≤ 1 → count_of db t (lin_values (E ++ own) q) ≡ count_of db t (lin_values e p)
  counted_same own long = ap (count_of db t) (same own long)

  longer_same :
      (own : List ℤ) → length own ≤ 1 → (y : ℕ) (w : ℤ) → var (E ++ own) y ≡ w
      → count_of db t (lin_values (E ++ own) (q ++ alone y ∷ [])) ≡ count_of db t (lin_values e p ++ w ∷ [])
  longer_same own long y w h = ap (count_of db t) (behind (E ++ own) q y ∙ (λ i. same own long i ++ h i ∷ []))

  only : (a : Bool) → (a && true) ≡ true → a ≡ true
  only a h = first_so a true h

  first_hyp : ClauseTrue db E (record { vars = []; guards = some_rows t q ∷ []; rel = some_rows t (q ++ alone x ∷ []) })
  first_hyp own long g =
      let few : length own ≤ 1 = omega (arith, long) in
      let some = subst (λ z. pos 1 ≤ℤ z) (counted_same own few) (true_some db (E ++ own) t q (only _ g)) in
      some_true db (E ++ own) t (q ++ alone x ∷ []) (subst (λ z. pos 1 ≤ℤ z) (sym (longer_same own few x v (worth own few))) (is.some some))

  second_hyp : ClauseTrue db E (record { vars = []; guards = no_rows t q ∷ []; rel = is_nothing x })
  second_hyp own long g =
      let few : length own ≤ 1 = omega (arith, long) in
      let none = subst (λ z. z ≤ℤ pos 0) (counted_same own few) (true_none db (E ++ own) t q (only _ g)) in
      is_nothing_true db (E ++ own) x (worth own few ∙ is.none none)

  module _ (beyond : Rel) (means : (m : ℤ) → rel_true db (E ++ m ∷ []) beyond ≡ true → Beyond m v) where
    third_hyp :
        (name : List ℕ) → ClauseTrue db E (record
        { vars = name ∷ []; guards = some_rows t q ∷ beyond ∷ []; rel = none_there t (q ++ alone k ∷ []) })
    third_hyp name [] long g = absurd (omega (arith, long))
    third_hyp name (m ∷ []) long g =
        let some = subst (λ z. pos 1 ≤ℤ z) (counted_same (m ∷ []) (omega arith)) (true_some db (E ++ m ∷ []) t q (first_so _ _ g)) in
        let far = means m (only _ (second_so (rel_true db (E ++ m ∷ []) (some_rows t q)) _ g)) in
        none_true db (E ++ m ∷ []) t (q ++ alone k ∷ []) (longer_same (m ∷ []) (omega arith) k m (own_worth m) ∙ is.beyond m some far)
    third_hyp name (m ∷ j ∷ rest) long g = absurd (omega (arith, long))

    pub extreme_true : AllByRecursion (ClauseTrue db E) (extreme t q x k beyond)
    extreme_true = (first_hyp, (second_hyp, (third_hyp (codes "k"), tt)))
