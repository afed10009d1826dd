-- A variable of a clause has one range.
use Rattle.std.proofs.Common.{◌≡◌, ℕ, true, false, ◌||◌, List, [], ◌∷◌, refl, sym, ap, ◌∙◌, ℤ, subst, ◌<ℤ◌}
use Rattle.std.specs.List.{list_any, AllByRecursion}
use Rattle.std.specs.List.Sorted.{IsStrictlySortedBy}
use Rattle.std.specs.Ordering.{int_cmp, is_eq, ordering_reverse, MatchOrdering}
use Rattle.std.specs.declared.cmp.Ordering.{Ordering}
use Rattle.std.specs.declared.cmp.Ordering.TheVariants.{Less, Equal, Greater}
use Rattle.std.specs.Cmp.{int_ranks}
use Rattle.std.proofs.lemmas.Cmp.{int_cmp_total}
use Rattle.std.proofs.lemmas.Bool.{false≢true}
use Rattle.acc_base.specs.declared.tables.Row.{Row}
use Rattle.acc_base.specs.declared.forms.Clause.{Clause}
use Rattle.acc_audit_ranges.specs.Ranges.{same, IsRange}

same_self : (x : ℤ) → same x x ≡ true
same_self x = by (int_cmp x x) (int_cmp_total.antisymm x x)
  where
    by : (o : Ordering) → o ≡ ordering_reverse o → is_eq o ≡ true
    by Less e = cc
    by Equal e = refl
    by Greater e = cc

one_number : (x y : ℤ) → int_cmp x y ≡ Equal → x ≡ y
one_number x y e = subst (λ o. MatchOrdering o (x <ℤ y) (x ≡ y) (y <ℤ x)) e (int_ranks x y)

-- all of some numbers are above x
abbrev AreAbove : ℤ → List ℤ → Type 0
AreAbove x xs = AllByRecursion (λ y. int_cmp x y ≡ Less) xs

above_more : (x y : ℤ) (xs : List ℤ) → int_cmp x y ≡ Less → AreAbove y xs → AreAbove x xs
above_more x y [] less a = tt
above_more x y (z ∷ xs) less a = (int_cmp_total.trans x y z less a.0, above_more x y xs less a.1)

-- and so x is none of them
not_among : (x : ℤ) (xs : List ℤ) → AreAbove x xs → list_any (same x) xs ≡ false
not_among x [] a = refl
not_among x (y ∷ xs) a = ap (λ o. is_eq o || list_any (same x) xs) a.0 ∙ not_among x xs a.1

first_among : (x : ℤ) (xs : List ℤ) → list_any (same x) (x ∷ xs) ≡ true
first_among x xs = ap (λ b. b || list_any (same x) xs) (same_self x)

-- the same numbers are in both
abbrev AreSame : List ℤ → List ℤ → Type 0
AreSame xs ys = (q : ℤ) → list_any (same q) xs ≡ list_any (same q) ys

module _ (x : ℤ) (xs ys : List ℤ) (a : AreAbove x xs) (b : AreAbove x ys) (h : AreSame (x ∷ xs) (x ∷ ys)) where
  others_same : AreSame xs ys
  others_same q = by (int_cmp q x) refl (h q)
    where
      at_first : q ≡ x → list_any (same q) xs ≡ list_any (same q) ys
      at_first e = subst (λ p. list_any (same p) xs ≡ list_any (same p) ys) (sym e) (not_among x xs a ∙ sym (not_among x ys b))

      by : (o : Ordering) → int_cmp q x ≡ o → (is_eq o || list_any (same q) xs) ≡ (is_eq o || list_any (same q) ys)
          → list_any (same q) xs ≡ list_any (same q) ys
      by Less e g = g
      by Equal e g = at_first (one_number q x e)
      by Greater e g = g

-- a number below all of the others is none of them
module _ (x y : ℤ) (xs ys : List ℤ) (less : int_cmp x y ≡ Less) (b : AreAbove y ys) where
  only_there : AreSame (x ∷ xs) (y ∷ ys) → ⊥
  only_there h = false≢true (sym (not_among x (y ∷ ys) (less, above_more x y ys less b)) ∙ sym (h x) ∙ first_among x xs)

-- two rising lists of the same numbers are one
rising_same : (xs ys : List ℤ) → IsStrictlySortedBy int_cmp xs → IsStrictlySortedBy int_cmp ys → AreSame xs ys → xs ≡ ys
unfolding IsStrictlySortedBy
rising_same [] [] a b h = refl
rising_same [] (y ∷ ys) a b h = absurd (false≢true (h y ∙ first_among y ys))
rising_same (x ∷ xs) [] a b h = absurd (false≢true (sym (h x) ∙ first_among x xs))
rising_same (x ∷ xs) (y ∷ ys) a b h = by (int_cmp x y) refl (rising_same xs ys a.1 b.1)
  where
    one_first : x ≡ y → (AreSame xs ys → xs ≡ ys) → (x ∷ xs) ≡ (y ∷ ys)
    one_first e rest =
        let above : AreAbove x ys = subst (λ z. AreAbove z ys) (sym e) b.0 in
        let alike : AreSame (x ∷ xs) (x ∷ ys) = subst (λ z. AreSame (x ∷ xs) (z ∷ ys)) (sym e) h in
        ap (λ z. z ∷ xs) e ∙ ap (λ zs. y ∷ zs) (rest (others_same x xs ys a.0 above alike))

    by : (o : Ordering) → int_cmp x y ≡ o → (AreSame xs ys → xs ≡ ys) → (x ∷ xs) ≡ (y ∷ ys)
    by Less e rest = absurd (only_there x y xs ys e b.0 h)
    by Equal e rest = one_first (one_number x y e) rest
    by Greater e rest =
        let less : int_cmp y x ≡ Less = int_cmp_total.antisymm y x ∙ ap ordering_reverse e in
        absurd (only_there y x ys xs less a.0 (λ q. sym (h q)))

pub one_range : (db : List Row) (env : List ℤ) (c : Clause) (v : ℕ) (xs ys : List ℤ) → IsRange db env c v xs → IsRange db env c v ys
    → xs ≡ ys
one_range db env c v xs ys a b = rising_same xs ys a.rising b.rising (λ q. a.each q ∙ sym (b.each q))
