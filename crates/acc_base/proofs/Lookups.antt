-- What stands at a place after a row is put, dropped or changed.
use Rattle.std.proofs.Common.{◌≡◌, Bool, true, false, cond, ◌||◌, List, [], ◌∷◌, ap, sym, ◌∙◌, refl, Some, None, if◌then◌else◌}
use Rattle.std.specs.Prelude.{find}
use Rattle.std.specs.List.{list_any}
use Rattle.std.specs.declared.cmp.Ordering.{Ordering}
use Rattle.std.specs.declared.cmp.Ordering.TheVariants.{Less, Equal, Greater}
use Rattle.std.specs.Ordering.{is_eq}
use Rattle.std.specs.Cmp.{alike_right}
use Rattle.acc_base.specs.declared.tables.Row.{Row}
use Rattle.acc_base.specs.Tables.{Place, place_of, place_cmp, IsInOrder, compared, is_at, put, put_here, drop_row, change_row}
use Rattle.acc_base.proofs.Places.{place_total, one_place, is_equal}
use Rattle.acc_base.proofs.RowOrder.{ArePast, InOrder, order_from, past_both, past_same}

-- ---- what is found

find_past : (p : Place) (db : List Row) → ArePast p db → find (is_at p.0 p.1) db ≡ None
find_past p [] h = refl
find_past p (r ∷ db) h = ap (λ o. cond (is_eq o) (Some r) (find (is_at p.0 p.1) db)) h.0 ∙ find_past p db h.1

-- what is found stands at the place
pub found_at : (p : Place) (db : List Row) (r : Row) → find (is_at p.0 p.1) db ≡ Some r → p ≡ place_of r
found_at p [] r h = cc
found_at p (x ∷ db) r h = by (place_cmp p (place_of x)) refl h (found_at p db r)
  where
    by : (o : Ordering) → place_cmp p (place_of x) ≡ o → cond (is_eq o) (Some x) (find (is_at p.0 p.1) db) ≡ Some r
        → (find (is_at p.0 p.1) db ≡ Some r → p ≡ place_of r) → p ≡ place_of r
    by Less e g ih = ih g
    by Equal e g ih = let same : x ≡ r = cc in one_place p (place_of x) e ∙ ap place_of same
    by Greater e g ih = ih g

pub any_none : (test : Row → Bool) (db : List Row) → find test db ≡ None → list_any test db ≡ false
any_none test [] h = refl
any_none test (x ∷ db) h = by (test x) h (any_none test db)
  where
    by : (b : Bool) → cond b (Some x) (find test db) ≡ None → (find test db ≡ None → list_any test db ≡ false)
        → (b || list_any test db) ≡ false
    by true g ih = cc
    by false g ih = ih g

pub any_some : (test : Row → Bool) (db : List Row) (r : Row) → find test db ≡ Some r → list_any test db ≡ true
any_some test [] r h = cc
any_some test (x ∷ db) r h = by (test x) h (any_some test db r)
  where
    by : (b : Bool) → cond b (Some x) (find test db) ≡ Some r → (find test db ≡ Some r → list_any test db ≡ true)
        → (b || list_any test db) ≡ true
    by true g ih = refl
    by false g ih = ih g

-- ---- after a row is put

equal_case : {X : Type 0} (a b : Bool) (x y z : X) → a ≡ b → cond a x z ≡ cond a x (cond b y z)
equal_case true b x y z e = refl
equal_case false true x y z e = cc
equal_case false false x y z e = refl

greater_case : {X : Type 0} (a b : Bool) (x y z w : X) → (a ≡ true → b ≡ true → ⊥) → w ≡ cond a x z → cond b y w ≡ cond a x (cond b y z)
greater_case true true x y z w n ih = absurd (n refl refl)
greater_case true false x y z w n ih = ih
greater_case false true x y z w n ih = refl
greater_case false false x y z w n ih = ih

-- rows at one place are found at the same places
alike_at : (p : Place) (x y : Row) → place_cmp (place_of x) (place_of y) ≡ Equal → is_at p.0 p.1 x ≡ is_at p.0 p.1 y
alike_at p x y h = ap (λ q. is_eq (place_cmp p q)) (one_place (place_of x) (place_of y) h)

both_at : (p : Place) (x y : Row) → is_at p.0 p.1 x ≡ true → is_at p.0 p.1 y ≡ true → place_cmp (place_of x) (place_of y) ≡ Equal
both_at p x y h g =
    ap (λ q. place_cmp q (place_of y)) (sym (one_place p (place_of x) (is_equal (place_cmp p (place_of x)) h)))
    ∙ is_equal (place_cmp p (place_of y)) g

pub find_put : (p : Place) (new : Row) (db : List Row)
    → find (is_at p.0 p.1) (put new db) ≡ (if is_at p.0 p.1 new then Some new else find (is_at p.0 p.1) db)
find_put p new [] = refl
find_put p new (r ∷ db) = by (compared new.table new.key.parts r) refl (find_put p new db)
  where
    by : (o : Ordering) → compared new.table new.key.parts r ≡ o
        → find (is_at p.0 p.1) (put new db) ≡ (if is_at p.0 p.1 new then Some new else find (is_at p.0 p.1) db)
        → find (is_at p.0 p.1) (put_here o new r db (put new db))
        ≡ (if is_at p.0 p.1 new then Some new else find (is_at p.0 p.1) (r ∷ db))
    by Less e ih = refl
    by Equal e ih = equal_case (is_at p.0 p.1 new) (is_at p.0 p.1 r) (Some new) (Some r) (find (is_at p.0 p.1) db) (alike_at p new r e)
    by Greater e ih =
        greater_case (is_at p.0 p.1 new) (is_at p.0 p.1 r) (Some new) (Some r) (find (is_at p.0 p.1) db)
        (find (is_at p.0 p.1) (put new db)) (λ h g. absurd (let f : Equal ≡ Greater = sym (both_at p new r h g) ∙ e in cc)) ih

-- ---- after one is dropped

pub find_dropped : (p q : Place) (db : List Row) → place_cmp p q ≡ Equal → IsInOrder db → find (is_at p.0 p.1) (drop_row q.0 q.1 db) ≡ None
find_dropped p q db h order = walk db (order_from db order)
  where
    same_test : (r : Row) → is_at p.0 p.1 r ≡ is_at q.0 q.1 r
    same_test r = ap (λ x. is_at x.0 x.1 r) (one_place p q h)

    walk : (rows : List Row) → InOrder rows → find (is_at p.0 p.1) (drop_row q.0 q.1 rows) ≡ None
    walk [] g = refl
    walk (x ∷ rows) g = by (place_cmp q (place_of x)) refl (walk rows g.1)
      where
        by : (o : Ordering) → place_cmp q (place_of x) ≡ o → find (is_at p.0 p.1) (drop_row q.0 q.1 rows) ≡ None
            → find (is_at p.0 p.1) (cond (is_eq o) rows (x ∷ drop_row q.0 q.1 rows)) ≡ None
        by Less e ih = ap (λ b. cond b (Some x) (find (is_at p.0 p.1) (drop_row q.0 q.1 rows))) (same_test x ∙ ap is_eq e) ∙ ih
        by Equal e ih = find_past p rows (past_same p q rows h (past_same q (place_of x) rows e g.0))
        by Greater e ih = ap (λ b. cond b (Some x) (find (is_at p.0 p.1) (drop_row q.0 q.1 rows))) (same_test x ∙ ap is_eq e) ∙ ih

-- a row at another place stays
pub find_kept : (p q : Place) (db : List Row) → is_eq (place_cmp p q) ≡ false
    → find (is_at p.0 p.1) (drop_row q.0 q.1 db) ≡ find (is_at p.0 p.1) db
find_kept p q [] h = refl
find_kept p q (x ∷ db) h = by (is_at q.0 q.1 x) refl (is_at p.0 p.1 x) refl (find_kept p q db h)
  where
    both : is_at q.0 q.1 x ≡ true → is_at p.0 p.1 x ≡ true → ⊥
    both eq ep =
        let pq : place_cmp p q ≡ Equal = alike_right place_total q (place_of x) p (is_equal (place_cmp q (place_of x)) eq)
        ∙ is_equal (place_cmp p (place_of x)) ep in
        let t : is_eq (place_cmp p q) ≡ true = ap is_eq pq in
        let f : true ≡ false = sym t ∙ h in cc

    by : (b : Bool) → is_at q.0 q.1 x ≡ b → (c : Bool) → is_at p.0 p.1 x ≡ c
        → find (is_at p.0 p.1) (drop_row q.0 q.1 db) ≡ find (is_at p.0 p.1) db
        → find (is_at p.0 p.1) (cond b db (x ∷ drop_row q.0 q.1 db)) ≡ find (is_at p.0 p.1) (x ∷ db)
    by true eq true ep ih = absurd (both eq ep)
    by true eq false ep ih = sym (ap (λ b. cond b (Some x) (find (is_at p.0 p.1) db)) ep)
    by false eq c ep ih = ap (λ r. cond (is_at p.0 p.1 x) (Some x) r) ih

-- ---- changes

-- a change where there is no row
pub change_none : (p : Place) (f : Row → Row) (db : List Row) → find (is_at p.0 p.1) db ≡ None → change_row p.0 p.1 f db ≡ db
change_none p f [] h = refl
change_none p f (x ∷ db) h = by (is_at p.0 p.1 x) h (change_none p f db)
  where
    by : (b : Bool) → cond b (Some x) (find (is_at p.0 p.1) db) ≡ None → (find (is_at p.0 p.1) db ≡ None → change_row p.0 p.1 f db ≡ db)
        → cond b (f x ∷ db) (x ∷ change_row p.0 p.1 f db) ≡ x ∷ db
    by true g ih = cc
    by false g ih = ap (λ rows. x ∷ rows) (ih g)

-- a change puts the changed row
pub change_put : (p : Place) (f : Row → Row) (new r : Row) (db : List Row) → place_of new ≡ p → IsInOrder db
    → find (is_at p.0 p.1) db ≡ Some r → f r ≡ new → change_row p.0 p.1 f db ≡ put new db
change_put p f new r db at order found same = walk db (order_from db order) found
  where
    walk : (rows : List Row) → InOrder rows → find (is_at p.0 p.1) rows ≡ Some r → change_row p.0 p.1 f rows ≡ put new rows
    walk [] g h = cc
    walk (x ∷ rows) g h = by (place_cmp p (place_of x)) refl h (walk rows g.1)
      where
        by : (o : Ordering) → place_cmp p (place_of x) ≡ o → cond (is_eq o) (Some x) (find (is_at p.0 p.1) rows) ≡ Some r
            → (find (is_at p.0 p.1) rows ≡ Some r → change_row p.0 p.1 f rows ≡ put new rows)
            → cond (is_eq o) (f x ∷ rows) (x ∷ change_row p.0 p.1 f rows) ≡ put new (x ∷ rows)
        by Less e k ih =
            let n : find (is_at p.0 p.1) rows ≡ None = find_past p rows (past_both p (place_of x) rows e g.0) in cc
        by Equal e k ih =
            let y : x ≡ r = cc in
            ap (λ z. z ∷ rows) (ap f y ∙ same)
            ∙ sym (ap (λ o. put_here o new x rows (put new rows)) (ap (λ q. place_cmp q (place_of x)) at ∙ e))
        by Greater e k ih =
            ap (λ z. x ∷ z) (ih k) ∙ sym (ap (λ o. put_here o new x rows (put new rows)) (ap (λ q. place_cmp q (place_of x)) at ∙ e))
