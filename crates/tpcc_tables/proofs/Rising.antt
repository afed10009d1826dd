-- The parts behind a prefix rise along rows in order.
use Rattle.std.proofs.Common.{◌≡◌, ℕ, suc, ◌+◌, ◌<◌, List, [], ◌∷◌, ◌++◌, length, map, drop, get_or, refl, ap, sym, ◌∙◌, subst, arith}
use Rattle.std.proofs.Common.{filter, ℤ}
use Rattle.std.proofs.Common.{Option, Some, None}
use Rattle.std.specs.Prelude.{slice_get}
use Rattle.std.proofs.Math.Seq.{drop-cons}
use Rattle.std.specs.List.Sorted.{IsStrictlySortedBy}
use Rattle.std.specs.Map.{keys_of}
use Rattle.acc_base.specs.declared.tables.Row.{Row}
use Rattle.acc_base.specs.Tables.{Place, place_of, place_cmp, is_under, parts_at, with_part, IsInOrder}
use Rattle.acc_store.specs.Rows.{Entry, live, IsRising}
use Rattle.acc_store.proofs.Live.{content}
use Rattle.acc_store.proofs.Rising.{parts_rise}
use Rattle.acc_store.proofs.Spans.{live_below}

-- rows as a store would keep them
abbrev entries : List Row → List Entry
entries [] = []
entries (r ∷ rows) = (place_of r, content (Some r.cols) 0) ∷ entries rows

entries_live : (rows : List Row) → live (entries rows) ≡ rows
entries_live [] = refl
entries_live (r ∷ rows) = ap (λ rs. r ∷ rs) (entries_live rows)

entries_keys : (rows : List Row) → keys_of (entries rows) ≡ map place_of rows
entries_keys [] = refl
entries_keys (r ∷ rows) = ap (λ ps. place_of r ∷ ps) (entries_keys rows)

pub rises : (t : ℕ) (p : List ℤ) (rows : List Row) → IsInOrder rows → IsRising (parts_at (length p) (filter (is_under t p) rows))
rises t p rows order =
    let es = entries rows in
    subst (λ (rs : List Row). IsRising (parts_at (length p) rs)) (live_below t p es ∙ ap (filter (is_under t p)) (entries_live rows))
    (parts_rise t p es (subst (λ (ps : List Place). IsStrictlySortedBy place_cmp ps) (sym (entries_keys rows)) order))

-- ---- the parts of rows, one more at either end

pub next_parts : (n : ℕ) (rows : List Row) (i : ℕ) (r : Row) → i < length rows → r ≡ get_or rows i r
    → parts_at n (drop i rows) ≡ with_part (slice_get r.key.parts n) (parts_at n (drop (i + 1) rows))
next_parts n rows i r l e =
    let more : i + 1 ≡ suc i = omega arith in
    ap (parts_at n) (drop-cons rows i r l)
    ∙ ap (λ (x : Row). with_part (slice_get x.key.parts n) (parts_at n (drop (suc i) rows))) (sym e)
    ∙ ap (λ (j : ℕ). with_part (slice_get r.key.parts n) (parts_at n (drop j rows))) (sym more)

pub last_parts : (n : ℕ) (rows : List Row) (r : Row)
    → parts_at n (rows ++ r ∷ []) ≡ parts_at n rows ++ with_part (slice_get r.key.parts n) []
last_parts n [] r = refl
last_parts n (x ∷ rows) r = by (slice_get x.key.parts n) (last_parts n rows r)
  where
    by : (p : Option ℤ) → parts_at n (rows ++ r ∷ []) ≡ parts_at n rows ++ with_part (slice_get r.key.parts n) []
        → with_part p (parts_at n (rows ++ r ∷ [])) ≡ with_part p (parts_at n rows) ++ with_part (slice_get r.key.parts n) []
    by None ih = ih
    by (Some y) ih = ap (λ xs. y ∷ xs) ih
