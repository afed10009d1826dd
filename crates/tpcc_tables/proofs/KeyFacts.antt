-- A row stands at a key where its key begins with it and is no longer.
use Rattle.std.proofs.Common.{◌≡◌, ℕ, Bool, true, false, cond, List, [], ◌∷◌, length, refl, ap, sym, ◌∙◌, subst, ℤ, ◌==◌, take}
use Rattle.std.specs.Prelude.{filter, find, Some, is_some, ◌&&◌, ◌||◌}
use Rattle.std.specs.List.{list_any}
use Rattle.std.specs.Cmp.{first_so, second_so}
use Rattle.std.specs.Ordering.{is_eq}
use Rattle.std.proofs.lemmas.Bool.Decides.{Decides-eqb}
use Rattle.acc_base.specs.declared.tables.Row.{Row}
use Rattle.acc_base.specs.Tables.{place_of, place_cmp, is_at, is_under}
use Rattle.tpcc_tables.proofs.RowFacts.{both, place_there, under, under_is, equal_itself}

take_whole : (xs : List ℤ) → take (length xs) xs ≡ xs
take_whole [] = refl
take_whole (x ∷ xs) = ap (λ ys. x ∷ ys) (take_whole xs)

-- whether a row's key is as long as another
abbrev pub is_as_long : List ℤ → Row → Bool
is_as_long k r = length r.key.parts == length k

pub at_under : (t : ℕ) (k : List ℤ) (r : Row) → (is_under t k r && is_as_long k r) ≡ is_at t k r
at_under t k r = by (is_at t k r) refl
  where
    by : (b : Bool) → is_at t k r ≡ b → (is_under t k r && is_as_long k r) ≡ b
    by true e =
        let p = place_there t k r e in
        both (is_under t k r) (is_as_long k r)
        (under t k r (sym p.0) (p.1 ∙ (sym (take_whole r.key.parts) ∙ ap (λ (xs : List ℤ). take (length xs) r.key.parts) (sym p.1))))
        ((Decides-eqb (length r.key.parts) (length k)).1 (ap length (sym p.1)))
    by false e = not_both (is_under t k r && is_as_long k r) refl
      where
        not_both : (c : Bool) → (is_under t k r && is_as_long k r) ≡ c → c ≡ false
        not_both false g = refl
        not_both true g =
            let u = under_is t k r (first_so (is_under t k r) (is_as_long k r) g) in
            let l = (Decides-eqb (length r.key.parts) (length k)).0 (second_so (is_under t k r) (is_as_long k r) g) in
            let whole : k ≡ r.key.parts =
            u.1 ∙ (ap (λ (n : ℕ). take n r.key.parts) (sym l) ∙ take_whole r.key.parts) in
            let at : is_at t k r ≡ true =
            subst (λ (x : ℕ). is_at x k r ≡ true) u.0
            (subst (λ (y : List ℤ). is_at r.table y r ≡ true) (sym whole) (ap is_eq (equal_itself (place_of r)))) in
            let wrong : true ≡ false = sym at ∙ e in absurd (cc)

find_kept : (first second : Row → Bool) (rows : List Row) → find second (filter first rows) ≡ find (λ r. first r && second r) rows
find_kept first second [] = refl
find_kept first second (r ∷ rows) = by (first r) (find_kept first second rows)
  where
    by : (b : Bool) → find second (filter first rows) ≡ find (λ x. first x && second x) rows
        → find second (cond b (r ∷ filter first rows) (filter first rows))
        ≡ cond (b && second r) (Some r) (find (λ x. first x && second x) rows)
    by true ih = ap (λ z. cond (second r) (Some r) z) ih
    by false ih = ih

find_same : (first second : Row → Bool) → ((r : Row) → first r ≡ second r) → (rows : List Row) → find first rows ≡ find second rows
find_same first second f [] = refl
find_same first second f (r ∷ rows) = λ i. cond (f r i) (Some r) (find_same first second f rows i)

pub find_at : (t : ℕ) (k : List ℤ) (rows : List Row) → find (is_as_long k) (filter (is_under t k) rows) ≡ find (is_at t k) rows
find_at t k rows =
    find_kept (is_under t k) (is_as_long k) rows ∙ find_same (λ r. is_under t k r && is_as_long k r) (is_at t k) (at_under t k) rows

pub is_some_find : (test : Row → Bool) (rows : List Row) → is_some (find test rows) ≡ list_any test rows
is_some_find test [] = refl
is_some_find test (r ∷ rows) = by (test r) (is_some_find test rows)
  where
    by : (b : Bool) → is_some (find test rows) ≡ list_any test rows → is_some (cond b (Some r) (find test rows)) ≡ (b || list_any test rows)
    by true ih = refl
    by false ih = ih
