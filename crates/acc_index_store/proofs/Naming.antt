-- Places that writes name.
use Rattle.std.proofs.Common.{◌≡◌, ℕ, Bool, true, false, cond, ◌||◌, List, [], ◌∷◌, refl, sym, ap, ◌∙◌, subst, Option, Some, None}
use Rattle.std.specs.Prelude.{find, is_some, option_map, Decides, slice_index_or, ℤ, pos}
use Rattle.std.specs.List.{list_any}
use Rattle.std.specs.declared.cmp.Ordering.{Ordering}
use Rattle.std.specs.declared.cmp.Ordering.TheVariants.{Less, Equal, Greater}
use Rattle.std.specs.Ordering.{int_eq, is_eq, ordering_reverse}
use Rattle.std.specs.Cmp.{both_ways, signed_Decides}
use Rattle.std.specs.Cmp.Lexicographic.{pointwise, pointwise_decides}
use Rattle.acc_base.specs.declared.tables.Row.{Row}
use Rattle.acc_base.specs.Tables.{Place, place_cmp, cell, cell_of}
use Rattle.acc_base.proofs.Places.{place_total, one_place, is_equal}
use Rattle.acc_store.specs.Rows.{columns_of}

pub place_self : (p : Place) → is_eq (place_cmp p p) ≡ true
place_self p = by (place_cmp p p) (place_total.antisymm p p)
  where
    by : (o : Ordering) → o ≡ ordering_reverse o → is_eq o ≡ true
    by Less e = cc
    by Equal e = refl
    by Greater e = cc

pub place_is : (p q : Place) → is_eq (place_cmp p q) ≡ true → p ≡ q
place_is p q h = one_place p q (is_equal (place_cmp p q) h)

pub place_flip : (p q : Place) → is_eq (place_cmp p q) ≡ is_eq (place_cmp q p)
place_flip p q = ap is_eq (place_total.antisymm p q) ∙ by (place_cmp q p)
  where
    by : (o : Ordering) → is_eq (ordering_reverse o) ≡ is_eq o
    by Less = refl
    by Equal = refl
    by Greater = refl

-- places of one table are alike where their parts are
pub parts_alike : (p q : Place) (b : Bool) → p.0 ≡ q.0 → b ≡ pointwise int_eq p.1 q.1 → b ≡ is_eq (place_cmp p q)
parts_alike p q b table e = e ∙ both_ways (pointwise int_eq p.1 q.1) (is_eq (place_cmp p q)) to from
  where
    parts : Decides (pointwise int_eq p.1 q.1) (p.1 ≡ q.1)
    parts = pointwise_decides signed_Decides p.1 q.1

    to : pointwise int_eq p.1 q.1 ≡ true → is_eq (place_cmp p q) ≡ true
    to h =
        let key = parts.0 h in
        let same : p ≡ q = λ i. (table i, key i) in
        subst (λ x. is_eq (place_cmp p x) ≡ true) same (place_self p)

    from : is_eq (place_cmp p q) ≡ true → pointwise int_eq p.1 q.1 ≡ true
    from h = parts.1 (ap (λ x. x.1) (place_is p q h))

-- ---- a row that is found

pub value_there : (o : Option Row) (c : ℕ) (cols : List ℤ) → columns_of o ≡ Some cols → Some (slice_index_or cols c (pos 0)) ≡ option_map (cell c) o
value_there None c cols h = cc
value_there (Some r) c cols h = let same : r.cols ≡ cols = cc in ap (λ l. Some (slice_index_or l c (pos 0))) (sym same)

pub value_absent : (o : Option Row) (c : ℕ) → columns_of o ≡ None → None ≡ option_map (cell c) o
value_absent None c h = refl
value_absent (Some r) c h = cc
