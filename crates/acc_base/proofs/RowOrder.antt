-- Rows in order stay in order.
use Rattle.std.proofs.Common.{◌≡◌, ℕ, List, [], ◌∷◌, Bool, true, false, sym, subst, refl, ap, ◌∙◌, if◌then◌else◌, map, ℤ}
use Rattle.std.specs.List.{AllByRecursion}
use Rattle.std.specs.List.Sorted.{IsStrictlySortedBy}
use Rattle.std.specs.declared.cmp.Ordering.{Ordering}
use Rattle.std.specs.declared.cmp.Ordering.TheVariants.{Less, Equal, Greater}
use Rattle.std.specs.Ordering.{ordering_reverse}
use Rattle.acc_base.specs.declared.tables.Row.{Row}
use Rattle.acc_base.specs.Tables.{Place, place_of, place_cmp, IsInOrder, compared, is_at, put, put_here, drop_row, change_row}
use Rattle.acc_base.proofs.Places.{place_total, one_place}
use Rattle.acc_base.proofs.RowChanges.{put_all, drop_all, change_all}

-- all rows stand past a place
abbrev pub ArePast : Place → List Row → Type 0
ArePast p db = AllByRecursion (λ r. place_cmp p (place_of r) ≡ Less) db

-- each row stands past those before it
abbrev pub InOrder : List Row → Type 0
InOrder [] = Unit {0}
InOrder (r ∷ db) = ArePast (place_of r) db × InOrder db

past_from : (p : Place) (db : List Row) → AllByRecursion (λ q. place_cmp p q ≡ Less) (map place_of db) → ArePast p db
past_from p [] h = tt
past_from p (r ∷ db) h = (h.0, past_from p db h.1)

past_to : (p : Place) (db : List Row) → ArePast p db → AllByRecursion (λ q. place_cmp p q ≡ Less) (map place_of db)
past_to p [] h = tt
past_to p (r ∷ db) h = (h.0, past_to p db h.1)

pub order_from : (db : List Row) → IsInOrder db → InOrder db
unfolding IsStrictlySortedBy
order_from [] h = tt
order_from (r ∷ db) h = (past_from (place_of r) db h.0, order_from db h.1)

pub order_to : (db : List Row) → InOrder db → IsInOrder db
unfolding IsStrictlySortedBy
order_to [] h = tt
order_to (r ∷ db) h = (past_to (place_of r) db h.0, order_to db h.1)

pub past_both : (p q : Place) (db : List Row) → place_cmp p q ≡ Less → ArePast q db → ArePast p db
past_both p q [] h g = tt
past_both p q (x ∷ db) h g = (place_total.trans p q (place_of x) h g.0, past_both p q db h g.1)

pub past_same : (p q : Place) (db : List Row) → place_cmp p q ≡ Equal → ArePast q db → ArePast p db
past_same p q db h g = subst (λ x. ArePast x db) (sym (one_place p q h)) g

-- ---- a row that is put

put_ordered : (new : Row) (db : List Row) → InOrder db → InOrder (put new db)
put_ordered new [] h = (tt, tt)
put_ordered new (r ∷ db) h = by (compared new.table new.key.parts r) refl (put_ordered new db h.1)
  where
    by : (o : Ordering) → compared new.table new.key.parts r ≡ o → InOrder (put new db) → InOrder (put_here o new r db (put new db))
    by Less e ih = ((e, past_both (place_of new) (place_of r) db e h.0), h)
    by Equal e ih = (past_same (place_of new) (place_of r) db e h.0, h.1)
    by Greater e ih = (
      put_all (λ x. place_cmp (place_of r) (place_of x) ≡ Less) new db (place_total.antisymm (place_of r) (place_of new)
          ∙ ap ordering_reverse e) h.0,
      ih,
    )

pub put_in_order : (new : Row) (db : List Row) → IsInOrder db → IsInOrder (put new db)
put_in_order new db h = order_to (put new db) (put_ordered new db (order_from db h))

-- ---- one that is dropped

drop_ordered : (t : ℕ) (k : List ℤ) (db : List Row) → InOrder db → InOrder (drop_row t k db)
drop_ordered t k [] h = tt
drop_ordered t k (r ∷ db) h = by (is_at t k r) (drop_ordered t k db h.1)
  where
    by : (b : Bool) → InOrder (drop_row t k db) → InOrder (if b then db else (r ∷ drop_row t k db))
    by true ih = h.1
    by false ih = (drop_all (λ x. place_cmp (place_of r) (place_of x) ≡ Less) t k db h.0, ih)

pub drop_in_order : (t : ℕ) (k : List ℤ) (db : List Row) → IsInOrder db → IsInOrder (drop_row t k db)
drop_in_order t k db h = order_to (drop_row t k db) (drop_ordered t k db (order_from db h))

-- ---- and one that is changed

module _ (t : ℕ) (k : List ℤ) (change : Row → Row) (same : (r : Row) → place_of (change r) ≡ place_of r) where
  change_past : (p : Place) (db : List Row) → ArePast p db → ArePast p (change_row t k change db)
  change_past p db h =
      change_all (λ r. place_cmp p (place_of r) ≡ Less) (λ r. place_cmp p (place_of r) ≡ Less) t k change (λ r x. x) db
      (λ r f a x. ap (place_cmp p) (same r) ∙ x) h

  change_ordered : (db : List Row) → InOrder db → InOrder (change_row t k change db)
  change_ordered [] h = tt
  change_ordered (r ∷ db) h = by (is_at t k r) (change_ordered db h.1)
    where
      by : (b : Bool) → InOrder (change_row t k change db) → InOrder (if b then (change r ∷ db) else (r ∷ change_row t k change db))
      by true ih = (subst (λ p. ArePast p db) (sym (same r)) h.0, h.1)
      by false ih = (change_past (place_of r) db h.0, ih)

  pub change_in_order : (db : List Row) → IsInOrder db → IsInOrder (change_row t k change db)
  change_in_order db h = order_to (change_row t k change db) (change_ordered db (order_from db h))
