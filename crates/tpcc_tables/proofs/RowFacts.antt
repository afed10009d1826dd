-- What rows in order give: what stands at a key, what is counted and summed below a prefix, and the least and the greatest part there.
use Rattle.std.proofs.Common.{◌≡◌, ◌⊎◌, inl, inr, ℕ, ◌+◌, ◌≤◌, Bool, true, false, cond, List, [], ◌∷◌, length, map, refl, ap, sym, ◌∙◌}
use Rattle.std.proofs.Common.{subst, arith}
use Rattle.std.proofs.Common.{Option, Some, None, ℤ, pos, ◌+ℤ◌, ◌<ℤ◌, ◌≤ℤ◌, ◌==◌, Contains, All, if◌then◌else◌, take}
use Rattle.std.specs.Prelude.{◌≢◌, find, filter, count_by, slice_get, ◌&&◌, ◌||◌}
use Rattle.std.specs.List.{list_any, starts_with}
use Rattle.std.specs.Int.{int_min, int_max}
use Rattle.std.specs.Ordering.{int_eq, is_eq, ordering_reverse}
use Rattle.std.specs.declared.cmp.Ordering.{Ordering}
use Rattle.std.specs.declared.cmp.Ordering.TheVariants.{Less, Equal, Greater}
use Rattle.std.proofs.lemmas.Int.{ints, int_min_is, int_max_is}
use Rattle.std.proofs.lemmas.Bool.{false≢true}
use Rattle.std.proofs.lemmas.Option.{none-some}
use Rattle.std.proofs.lemmas.Bool.Decides.{Decides-int_eq, Decides-eqb}
use Rattle.std.proofs.lemmas.List.Sums.{sum_by-cons}
use Rattle.std.proofs.lemmas.List.Elements.{All-nil, All-cons, All-head, All-tail, Contains-append_right}
use Rattle.std.specs.Cmp.{first_so, second_so}
use Rattle.acc_base.specs.declared.tables.Row.{Row}
use Rattle.acc_base.specs.Numbers.{total}
use Rattle.acc_base.specs.Equality.{ints_decide}
use Rattle.acc_base.specs.Tables.{Place, place_of, place_cmp, compared, is_at, is_under, cell, cell_of, has_row, column_of, count_of}
use Rattle.acc_base.specs.Tables.{sum_of}
use Rattle.acc_base.specs.Tables.{best, with_part, parts_at, least_of, greatest_of}
use Rattle.acc_base.proofs.Places.{place_total, is_equal, same_place}
use Rattle.acc_base.proofs.RowOrder.{InOrder, ArePast}
use Rattle.acc_base.proofs.Lookups.{any_some}

pub both : (a b : Bool) → a ≡ true → b ≡ true → (a && b) ≡ true
both a b g h = ap (λ x. x && b) g ∙ h

-- ---- one of the rows

abbrev pub Among : {X : Type 0} → X → List X → Type 0
Among r [] = ⊥
Among r (x ∷ xs) = (x ≡ r) ⊎ Among r xs

pub all_among : {X : Type 0} (P : X → Type 0) (xs : List X) → ((x : X) → Among x xs → P x) → All P xs
all_among P [] f = All-nil P
all_among P (x ∷ xs) f = All-cons P x xs (f x (inl refl)) (all_among P xs (λ y m. f y (inr m)))

pub contained : {X : Type 0} (x : X) (xs : List X) → Among x xs → Contains xs x
contained x [] m = absurd m
contained x (y ∷ xs) (inl e) = (0, omega arith, e)
contained x (y ∷ xs) (inr m) = Contains-append_right (y ∷ []) xs x (contained x xs m)

-- no item passes where none is found, and one does where one is found
pub none_passes : {X : Type 0} (p : X → Bool) (xs : List X) → find p xs ≡ None → All (λ x. p x ≡ false) xs
none_passes p [] e = All-nil (λ x. p x ≡ false)
none_passes p (x ∷ xs) e = by (p x) refl (none_passes p xs) e
  where
    by : (b : Bool) → p x ≡ b → (find p xs ≡ None → All (λ y. p y ≡ false) xs) → cond b (Some x) (find p xs) ≡ None
        → All (λ y. p y ≡ false) (x ∷ xs)
    by true is rest h = absurd (none-some x (sym h))
    by false is rest h = All-cons (λ y. p y ≡ false) x xs is (rest h)

pub one_passes : {X : Type 0} (p : X → Bool) (xs : List X) → find p xs ≢ None → All (λ x. p x ≡ false) xs → ⊥
one_passes p [] found all = found refl
one_passes p (x ∷ xs) found all =
    by (p x) refl (All-head (λ y. p y ≡ false) x xs all)
    (λ later. one_passes p xs later (All-tail (λ y. p y ≡ false) x xs all)) found
  where
    by : (b : Bool) → p x ≡ b → p x ≡ false → (find p xs ≢ None → ⊥) → cond b (Some x) (find p xs) ≢ None → ⊥
    by true is none rest h = (let e : true ≡ false = sym is ∙ none in cc)
    by false is none rest h = rest h

-- ---- what stands at a key

past_among : (r x : Row) (db : List Row) → ArePast (place_of x) db → Among r db → place_cmp (place_of x) (place_of r) ≡ Less
past_among r x [] h m = absurd m
past_among r x (y ∷ db) h (inl e) = subst (λ z. place_cmp (place_of x) (place_of z) ≡ Less) e h.0
past_among r x (y ∷ db) h (inr m) = past_among r x db h.1 m

itself : (o : Ordering) → o ≡ ordering_reverse o → o ≡ Equal
itself Less h = cc
itself Equal h = refl
itself Greater h = cc

pub equal_itself : (p : Place) → place_cmp p p ≡ Equal
equal_itself p = itself (place_cmp p p) (place_total.antisymm p p)

at_itself : (r : Row) → is_at r.table r.key.parts r ≡ true
at_itself r = ap is_eq (equal_itself (place_of r))

-- a row is found at its place
pub found : (db : List Row) (r : Row) → InOrder db → Among r db → find (is_at r.table r.key.parts) db ≡ Some r
found [] r order m = absurd m
found (x ∷ db) r order (inl e) =
    let here : is_at r.table r.key.parts x ≡ true = ap (is_at r.table r.key.parts) e ∙ at_itself r in
    ap (λ b. cond b (Some x) (find (is_at r.table r.key.parts) db)) here ∙ ap Some e
found (x ∷ db) r order (inr m) =
    let behind : place_cmp (place_of r) (place_of x) ≡ Greater =
    place_total.antisymm (place_of r) (place_of x) ∙ ap ordering_reverse (past_among r x db order.0 m) in
    ap (λ b. cond b (Some x) (find (is_at r.table r.key.parts) db)) (ap is_eq behind) ∙ found db r order.1 m

pub has_here : (db : List Row) (r : Row) (t : ℕ) (k : List ℤ) → InOrder db → Among r db → r.table ≡ t → r.key.parts ≡ k
    → has_row db t k ≡ pos 1
has_here db r t k order m e f =
    subst (λ y. has_row db y k ≡ pos 1) e (subst (λ y. has_row db r.table y ≡ pos 1) f
    (ap (λ b. if b then pos 1 else pos 0) (any_some (is_at r.table r.key.parts) db r (found db r order m))))

pub column_here : (db : List Row) (r : Row) (t : ℕ) (k : List ℤ) (c : ℕ) → InOrder db → Among r db → r.table ≡ t → r.key.parts ≡ k
    → column_of db t k c ≡ cell c r
column_here db r t k c order m e f =
    subst (λ y. column_of db y k c ≡ cell c r) e (subst (λ y. column_of db r.table y c ≡ cell c r) f
    (ap (cell_of c) (found db r order m)))

-- a row that passes a test
pub record Passing (test : Row → Bool) (db : List Row) : Type 0 where
  pub row : Row
  pub among : Among row db
  pub passes : test row ≡ true

some_passing : (test : Row → Bool) (db : List Row) → list_any test db ≡ true → Passing test db
some_passing test [] h = absurd (false≢true h)
some_passing test (x ∷ db) h = by (test x) refl h (some_passing test db)
  where
    by : (b : Bool) → test x ≡ b → (b || list_any test db) ≡ true → (list_any test db ≡ true → Passing test db) → Passing test (x ∷ db)
    by true e g ih = record { row = x; among = inl refl; passes = e }
    by false e g ih = let p = ih g in record { row = p.row; among = inr p.among; passes = p.passes }

pub there : (db : List Row) (t : ℕ) (k : List ℤ) → has_row db t k ≡ pos 1 → Passing (λ r. is_at t k r) db
there db t k h = by (list_any (is_at t k) db) refl h
  where
    by : (b : Bool) → list_any (is_at t k) db ≡ b → (if b then pos 1 else pos 0) ≡ pos 1 → Passing (λ r. is_at t k r) db
    by true e g = some_passing (is_at t k) db e
    by false e g = absurd (omega (arith, ints, g))

pub place_there : (t : ℕ) (k : List ℤ) (r : Row) → is_at t k r ≡ true → (t ≡ r.table) × (k ≡ r.key.parts)
place_there t k r h = same_place t k r (is_equal (compared t k r) h)

-- ---- what is counted

counted_here : (test : Row → Bool) (x : Row) (db : List Row) (b : Bool) → b ≡ true → count_by test (x ∷ db) ≡ cond b 1 0 + count_by test db
    → 1 ≤ count_by test (x ∷ db)
counted_here test x db true e s = omega (arith, s)
counted_here test x db false e s = absurd (false≢true e)

pub counted : (test : Row → Bool) (db : List Row) (r : Row) → Among r db → test r ≡ true → 1 ≤ count_by test db
counted test [] r m h = absurd m
counted test (x ∷ db) r (inl e) h = counted_here test x db (test x) (ap test e ∙ h) (sum_by-cons (λ y. cond (test y) 1 0) x db)
counted test (x ∷ db) r (inr m) h =
    let s = sum_by-cons (λ y. cond (test y) 1 0) x db in
    let ih = counted test db r m h in
    omega (arith, s, ih)

pub some_counted : (test : Row → Bool) (db : List Row) → 1 ≤ count_by test db → Passing test db
some_counted test [] h = absurd (omega (arith, h))
some_counted test (x ∷ db) h = by (test x) refl (sum_by-cons (λ y. cond (test y) 1 0) x db) (some_counted test db)
  where
    by : (b : Bool) → test x ≡ b → count_by test (x ∷ db) ≡ cond b 1 0 + count_by test db → (1 ≤ count_by test db → Passing test db)
        → Passing test (x ∷ db)
    by true e s ih = record { row = x; among = inl refl; passes = e }
    by false e s ih = let p = ih (omega (arith, s, h)) in record { row = p.row; among = inr p.among; passes = p.passes }

-- tests that say the same of each row count the same
pub same_count : (first second : Row → Bool) (db : List Row) → ((r : Row) → Among r db → first r ≡ second r)
    → count_by first db ≡ count_by second db
same_count first second [] f = refl
same_count first second (x ∷ db) f =
    let s = sum_by-cons (λ y. cond (first y) 1 0) x db in
    let t = sum_by-cons (λ y. cond (second y) 1 0) x db in
    let ih = same_count first second db (λ r m. f r (inr m)) in
    s ∙ (λ i. cond (f x (inl refl) i) 1 0 + ih i) ∙ sym t

-- where none passes, none is kept
pub none_kept : (test : Row → Bool) (db : List Row) → ((r : Row) → Among r db → test r ≡ true → ⊥) → filter test db ≡ []
none_kept test [] f = refl
none_kept test (x ∷ db) f = by (test x) refl (none_kept test db (λ r m. f r (inr m)))
  where
    by : (b : Bool) → test x ≡ b → filter test db ≡ [] → cond b (x ∷ filter test db) (filter test db) ≡ []
    by true e ih = absurd (f x (inl refl) e)
    by false e ih = ih

pub none_counted : (test : Row → Bool) (db : List Row) → ((r : Row) → Among r db → test r ≡ true → ⊥) → count_by test db ≡ 0
none_counted test [] f = refl
none_counted test (x ∷ db) f = by (test x) refl (none_counted test db (λ r m. f r (inr m)))
  where
    by : (b : Bool) → test x ≡ b → count_by test db ≡ 0 → count_by test (x ∷ db) ≡ 0
    by true e ih = absurd (f x (inl refl) e)
    by false e ih = sum_by-cons (λ y. cond (test y) 1 0) x db ∙ (λ i. cond (e i) 1 0 + ih i)

pub no_sum : (db : List Row) (t : ℕ) (p : List ℤ) (c : ℕ) → ((r : Row) → Among r db → is_under t p r ≡ true → ⊥) → sum_of db t p c ≡ pos 0
no_sum db t p c f = ap (λ rows. total (map (cell c) rows)) (none_kept (is_under t p) db f)

pub no_greatest : (db : List Row) (t : ℕ) (p : List ℤ) → ((r : Row) → Among r db → is_under t p r ≡ true → ⊥)
    → greatest_of db t p ≡ pos 0
no_greatest db t p f = ap (λ rows. best int_max (parts_at (length p) rows)) (none_kept (is_under t p) db f)

-- ---- the parts behind a prefix

behind_part : (o : Option ℤ) (m : ℤ) (xs : List ℤ) → Among m xs → Among m (with_part o xs)
behind_part None m xs h = h
behind_part (Some x) m xs h = inr h

part_in : (n : ℕ) (test : Row → Bool) (db : List Row) (r : Row) (m : ℤ) → Among r db → test r ≡ true → slice_get r.key.parts n ≡ Some m
    → Among m (parts_at n (filter test db))
part_in n test [] r m a t s = absurd a
part_in n test (x ∷ db) r m (inl e) t s =
    let here : test x ≡ true = ap test e ∙ t in
    let its : slice_get x.key.parts n ≡ Some m = ap (λ (y : Row). slice_get y.key.parts n) e ∙ s in
    subst (λ b. Among m (parts_at n (cond b (x ∷ filter test db) (filter test db)))) (sym here)
    (subst (λ o. Among m (with_part o (parts_at n (filter test db)))) (sym its) (inl refl))
part_in n test (x ∷ db) r m (inr a) t s = by (test x) (part_in n test db r m a t s)
  where
    by : (b : Bool) → Among m (parts_at n (filter test db)) → Among m (parts_at n (cond b (x ∷ filter test db) (filter test db)))
    by true ih = behind_part (slice_get x.key.parts n) m (parts_at n (filter test db)) ih
    by false ih = ih

-- a row that passes, with this part
record Partly (n : ℕ) (test : Row → Bool) (m : ℤ) (db : List Row) : Type 0 where
  row : Row
  among : Among row db
  passes : test row ≡ true
  its : slice_get row.key.parts n ≡ Some m

part_out : (n : ℕ) (test : Row → Bool) (m : ℤ) (db : List Row) → Among m (parts_at n (filter test db)) → Partly n test m db
part_out n test m [] h = absurd h
part_out n test m (x ∷ db) h = by (test x) refl h (part_out n test m db)
  where
    later : Partly n test m db → Partly n test m (x ∷ db)
    later p = record { row = p.row; among = inr p.among; passes = p.passes; its = p.its }

    of : (o : Option ℤ) → slice_get x.key.parts n ≡ o → test x ≡ true → Among m (with_part o (parts_at n (filter test db)))
        → (Among m (parts_at n (filter test db)) → Partly n test m db) → Partly n test m (x ∷ db)
    of None s e g ih = later (ih g)
    of (Some y) s e (inl f) ih = record { row = x; among = inl refl; passes = e; its = s ∙ ap Some f }
    of (Some y) s e (inr g) ih = later (ih g)

    by : (b : Bool) → test x ≡ b → Among m (parts_at n (cond b (x ∷ filter test db) (filter test db)))
        → (Among m (parts_at n (filter test db)) → Partly n test m db) → Partly n test m (x ∷ db)
    by true e g ih = of (slice_get x.key.parts n) refl e g ih
    by false e g ih = later (ih g)

-- ---- the least and the greatest

above : (x : ℤ) (xs : List ℤ) → Among x xs → x ≤ℤ best int_max xs
above x [] h = absurd h
above x (y ∷ []) (inl e) = omega (arith, ints, e)
above x (y ∷ []) (inr h) = absurd h
above x (y ∷ z ∷ rest) (inl e) = let m = int_max_is y (best int_max (z ∷ rest)) in omega (arith, ints, m, e)
above x (y ∷ z ∷ rest) (inr h) =
    let ih = above x (z ∷ rest) h in let m = int_max_is y (best int_max (z ∷ rest)) in omega (arith, ints, m, ih)

not_above : (m y : ℤ) (rest : List ℤ) → ((x : ℤ) → Among x (y ∷ rest) → x ≤ℤ m) → best int_max (y ∷ rest) ≤ℤ m
not_above m y [] f = f y (inl refl)
not_above m y (z ∷ rest) f =
    let a = f y (inl refl) in
    let b = not_above m z rest (λ x i. f x (inr i)) in
    let e = int_max_is y (best int_max (z ∷ rest)) in
    omega (arith, ints, e, a, b)

below : (x : ℤ) (xs : List ℤ) → Among x xs → best int_min xs ≤ℤ x
below x [] h = absurd h
below x (y ∷ []) (inl e) = omega (arith, ints, e)
below x (y ∷ []) (inr h) = absurd h
below x (y ∷ z ∷ rest) (inl e) = let m = int_min_is y (best int_min (z ∷ rest)) in omega (arith, ints, m, e)
below x (y ∷ z ∷ rest) (inr h) =
    let ih = below x (z ∷ rest) h in let m = int_min_is y (best int_min (z ∷ rest)) in omega (arith, ints, m, ih)

not_below : (m y : ℤ) (rest : List ℤ) → ((x : ℤ) → Among x (y ∷ rest) → m ≤ℤ x) → m ≤ℤ best int_min (y ∷ rest)
not_below m y [] f = f y (inl refl)
not_below m y (z ∷ rest) f =
    let a = f y (inl refl) in
    let b = not_below m z rest (λ x i. f x (inr i)) in
    let e = int_min_is y (best int_min (z ∷ rest)) in
    omega (arith, ints, e, a, b)

most : (m : ℤ) (xs : List ℤ) → Among m xs → ((x : ℤ) → Among x xs → x ≤ℤ m) → best int_max xs ≡ m
most m [] h f = absurd h
most m (y ∷ rest) h f = let a = above m (y ∷ rest) h in let b = not_above m y rest f in omega (arith, ints, a, b)

fewest : (m : ℤ) (xs : List ℤ) → Among m xs → ((x : ℤ) → Among x xs → m ≤ℤ x) → best int_min xs ≡ m
fewest m [] h f = absurd h
fewest m (y ∷ rest) h f = let a = below m (y ∷ rest) h in let b = not_below m y rest f in omega (arith, ints, a, b)

-- the part of one row below the prefix is the greatest, if that of none is greater
pub greatest_is : (db : List Row) (t : ℕ) (p : List ℤ) (r : Row) (m : ℤ) → Among r db → is_under t p r ≡ true
    → slice_get r.key.parts (length p) ≡ Some m
    → ((s : Row) (x : ℤ) → Among s db → is_under t p s ≡ true → slice_get s.key.parts (length p) ≡ Some x → x ≤ℤ m)
    → greatest_of db t p ≡ m
greatest_is db t p r m a u s f =
    most m (parts_at (length p) (filter (is_under t p) db)) (part_in (length p) (is_under t p) db r m a u s)
    (λ x i. let o = part_out (length p) (is_under t p) x db i in f o.row x o.among o.passes o.its)

pub least_is : (db : List Row) (t : ℕ) (p : List ℤ) (r : Row) (m : ℤ) → Among r db → is_under t p r ≡ true
    → slice_get r.key.parts (length p) ≡ Some m
    → ((s : Row) (x : ℤ) → Among s db → is_under t p s ≡ true → slice_get s.key.parts (length p) ≡ Some x → m ≤ℤ x)
    → least_of db t p ≡ m
least_is db t p r m a u s f =
    fewest m (parts_at (length p) (filter (is_under t p) db)) (part_in (length p) (is_under t p) db r m a u s)
    (λ x i. let o = part_out (length p) (is_under t p) x db i in f o.row x o.among o.passes o.its)

-- ---- rows below a prefix

pub under : (t : ℕ) (p : List ℤ) (r : Row) → r.table ≡ t → p ≡ take (length p) r.key.parts → is_under t p r ≡ true
under t p r e f =
    both (r.table == t) (starts_with int_eq r.key.parts p) ((Decides-eqb r.table t).1 e) ((ints_decide p (take (length p) r.key.parts)).1 f)

pub under_is : (t : ℕ) (p : List ℤ) (r : Row) → is_under t p r ≡ true → (r.table ≡ t) × (p ≡ take (length p) r.key.parts)
under_is t p r h = (
  (Decides-eqb r.table t).0 (first_so (r.table == t) (starts_with int_eq r.key.parts p) h),
  (ints_decide p (take (length p) r.key.parts)).0 (second_so (r.table == t) (starts_with int_eq r.key.parts p) h),
)

pub zero_or_one : (db : List Row) (t : ℕ) (k : List ℤ) → (has_row db t k ≡ pos 0) ⊎ (has_row db t k ≡ pos 1)
zero_or_one db t k = by (list_any (is_at t k) db)
  where
    by : (b : Bool) → ((if b then pos 1 else pos 0) ≡ pos 0) ⊎ ((if b then pos 1 else pos 0) ≡ pos 1)
    by true = inr refl
    by false = inl refl
