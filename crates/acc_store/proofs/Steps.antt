-- What a walk over entries adds up, step by step.
use Rattle.std.proofs.Common.{◌≡◌, ℕ, Bool, true, false, cond, List, [], ◌∷◌, ◌++◌, ap, sym, ◌∙◌, refl, arith, ℤ, Option, Some, None}
use Rattle.std.specs.Prelude.{◌≤ℤ◌, int_lt}
use Rattle.std.specs.List.{AllByRecursion}
use Rattle.std.specs.Int.{int_min, int_max}
use Rattle.std.proofs.lemmas.Int.{ints}
use Rattle.acc_base.specs.declared.tables.Row.{Row}
use Rattle.acc_base.specs.Tables.{Place, best, parts_at, with_part}
use Rattle.acc_store.specs.Contents.{Content}
use Rattle.acc_store.specs.Rows.{Entry, with_row, live, part_in, IsRising}

pub parts-with_row : (n : ℕ) (p : Place) (v : Option (List ℤ)) (rows : List Row) →
    parts_at n (with_row p v rows) ≡ with_part (part_in n p v) (parts_at n rows)
parts-with_row n p None rows = refl
parts-with_row n p (Some c) rows = refl

-- the parts of entries that end with one more
pub parts-last : (n : ℕ) (es : List Entry) (p : Place) (s : Content) →
    parts_at n (live (es ++ (p, s) ∷ [])) ≡ parts_at n (live es) ++ with_part (part_in n p s.cells) []
parts-last n [] p s = parts-with_row n p s.cells []
parts-last n (e ∷ es) p s =
    parts-with_row n e.0 e.1.cells (live (es ++ (p, s) ∷ [])) ∙ by (part_in n e.0 e.1.cells) (parts-last n es p s) ∙ ap
    (λ xs. xs ++ with_part (part_in n p s.cells) []) (sym (parts-with_row n e.0 e.1.cells (live es)))
  where
    by : (x : Option ℤ) → parts_at n (live (es ++ (p, s) ∷ [])) ≡ parts_at n (live es) ++ with_part (part_in n p s.cells) [] →
        with_part x (parts_at n (live (es ++ (p, s) ∷ []))) ≡ with_part x (parts_at n (live es)) ++ with_part (part_in n p s.cells) []
    by None ih = ih
    by (Some x) ih = ap (λ xs. x ∷ xs) ih

-- ---- the least and the greatest of numbers that rise

lesser : (x y : ℤ) → x ≤ℤ y → int_min x y ≡ x
lesser x y h = by (int_lt y x) refl
  where
    by : (b : Bool) → int_lt y x ≡ b → cond b y x ≡ x
    by true e = absurd (omega (arith, ints))
    by false e = refl

greater : (x y : ℤ) → x ≤ℤ y → int_max x y ≡ y
greater x y h = by (int_lt y x) refl
  where
    by : (b : Bool) → int_lt y x ≡ b → cond b x y ≡ y
    by true e = absurd (omega (arith, ints))
    by false e = refl

pub best-first : (x : ℤ) (xs : List ℤ) → IsRising (x ∷ xs) → best int_min (x ∷ xs) ≡ x
best-first x [] up = refl
best-first x (y ∷ ys) up = ap (int_min x) (best-first y ys up.1) ∙ lesser x y up.0.0

last_above : (x y : ℤ) (xs : List ℤ) → AllByRecursion (λ z. x ≤ℤ z) (xs ++ y ∷ []) → x ≤ℤ y
last_above x y [] h = h.0
last_above x y (z ∷ xs) h = last_above x y xs h.1

pub best-last : (xs : List ℤ) (x : ℤ) → IsRising (xs ++ x ∷ []) → best int_max (xs ++ x ∷ []) ≡ x
best-last [] x up = refl
best-last (y ∷ []) x up = greater y x up.0.0
best-last (y ∷ z ∷ zs) x up = ap (int_max y) (best-last (z ∷ zs) x up.1) ∙ greater y x (last_above y x (z ∷ zs) up.0)
