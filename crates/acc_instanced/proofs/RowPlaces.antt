-- Rows that are found by their place.
use Rattle.std.proofs.Common.{◌≡◌, ℕ, Bool, true, false, cond, List, [], ◌∷◌, length, take, refl, ap, sym, ◌∙◌, subst, arith, Some, None, ℤ}
use Rattle.std.proofs.Common.{◌==◌}
use Rattle.std.specs.Prelude.{◌&&◌, find}
use Rattle.std.specs.List.{starts_with, AllByRecursion}
use Rattle.std.specs.Ordering.{int_eq, is_eq}
use Rattle.std.specs.Cmp.{tied_itself, Equal-is}
use Rattle.std.specs.declared.cmp.Ordering.TheVariants.{Equal}
use Rattle.std.proofs.lemmas.List.{take_all}
use Rattle.std.proofs.lemmas.Bool.Decides.{Decides-eqb, Decides-and, Decides-like, same_from_decides}
use Rattle.acc_base.specs.declared.tables.Row.{Row}
use Rattle.acc_base.specs.Equality.{ints_decide}
use Rattle.acc_base.specs.Tables.{Place, place_cmp, is_at}
use Rattle.acc_base.proofs.Places.{place_total, one_place}
use Rattle.acc_base.proofs.RowOrder.{ArePast}

-- none is found before rows that are past a place
pub find_past : (p : Place) (db : List Row) → ArePast p db → find (is_at p.0 p.1) db ≡ None
find_past p [] h = refl
find_past p (r ∷ db) h = ap (λ o. cond (is_eq o) (Some r) (find (is_at p.0 p.1) db)) h.0 ∙ find_past p db h.1

-- what is found has what all have
module _ {X : Type 0} (P : X → Type 0) where
  pub found_holds : (test : X → Bool) (xs : List X) (x : X) → find test xs ≡ Some x → AllByRecursion P xs → P x
  found_holds test [] x e h = cc
  found_holds test (y ∷ xs) x e h = by (test y) e (λ g. found_holds test xs x g h.1)
    where
      by : (b : Bool) → cond b (Some y) (find test xs) ≡ Some x → (find test xs ≡ Some x → P x) → P x
      by true g ih = let s : y ≡ x = cc in subst P s h.0
      by false g ih = ih g

-- the same place, where keys are as long as each other
pub same_place : (t u : ℕ) (k q : List ℤ) → (t ≡ u → length q ≡ length k) →
    is_eq (place_cmp (u, q) (t, k)) ≡ ((t == u) && starts_with int_eq k q)
same_place t u k q long =
    same_from_decides (is_eq (place_cmp (u, q) (t, k))) ((t == u) && starts_with int_eq k q)
    (Decides-like (is_eq (place_cmp (u, q) (t, k))) to back (Equal-is (place_cmp (u, q) (t, k))))
    (Decides-and (t == u) (starts_with int_eq k q) (Decides-eqb t u) (ints_decide q (take (length q) k)))
  where
    whole : length q ≡ length k → take (length q) k ≡ k
    whole e = take_all (length q) k (omega (arith, e))

    to : place_cmp (u, q) (t, k) ≡ Equal → (t ≡ u) × (q ≡ take (length q) k)
    to h =
        let e = one_place (u, q) (t, k) h in
        let s : t ≡ u = ap (λ (p : Place). p.0) (sym e) in
        (s, ap (λ (p : Place). p.1) e ∙ sym (whole (long s)))

    back : (t ≡ u) × (q ≡ take (length q) k) → place_cmp (u, q) (t, k) ≡ Equal
    back h =
        let s = h.1 ∙ whole (long h.0) in
        ap (λ (p : Place). place_cmp p (t, k)) (λ i. (sym h.0 i, s i)) ∙ tied_itself place_total (t, k)
