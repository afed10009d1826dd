-- Each step keeps a standing in order, and what a crash may leave after it comes by that step from what it might
-- have left before.
use Rattle.std.proofs.Common.{◌≡◌, ℕ, ◌+◌, ◌<◌, ◌≤◌, ltb, min, max, false, cond, List, [], ◌∷◌, ◌++◌, map, length, get_or, take, sym, ◌∙◌}
use Rattle.std.proofs.Common.{arith, rules}
use Rattle.std.proofs.lemmas.List.{places, same_lists}
use Rattle.std.proofs.lemmas.Bool.Decides.{nat_tests}
use Rattle.std.proofs.lemmas.List.Folds.{list_any-append}
use Rattle.std.specs.List.{range_with_len}
use Rattle.std.proofs.lemmas.List.FromFn.{length-map-range_with_len, get_or-map-range_with_len}
use Rattle.acc_disk.specs.Crashes.{overwritten, Torn, PartlyCut, Follows}
use Rattle.acc_disk.specs.Standings.{Standing, after_write, after_cut, is_written, IsImage, IsInOrder}

-- overwritten, by length and by place
pub length-overwritten : (at : ℕ) (bytes file : List ℕ) → at ≤ length file →
    length (overwritten at bytes file) ≡ max (length file) (at + length bytes)
length-overwritten at bytes file le = grind (arith, places)

pub overwritten_below : (at : ℕ) (bytes file : List ℕ) (i : ℕ) → at ≤ length file → i < at →
    get_or (overwritten at bytes file) i 0 ≡ get_or file i 0
overwritten_below at bytes file i le lt = grind (arith, places)

pub overwritten_above : (at : ℕ) (bytes file : List ℕ) (i : ℕ) → at ≤ length file → at + length bytes ≤ i →
    get_or (overwritten at bytes file) i 0 ≡ get_or file i 0
overwritten_above at bytes file i le lt = grind (arith, places)

-- a write past the end begins at the end
pub overwritten-min : (at : ℕ) (bytes file : List ℕ) → overwritten (min at (length file)) bytes file ≡ overwritten at bytes file
overwritten-min at bytes file = same_lists _ _ (search (rules, places)) (λ k d h. grind (arith, places))

-- a place before the range, or behind it, isn't covered by it
still_unwritten_below : (at count i : ℕ) (written : List (ℕ × ℕ)) → i < at → is_written written i ≡ false →
    is_written (written ++ (at, count) ∷ []) i ≡ false
still_unwritten_below at count i written lt was = grind (arith, nat_tests, list_any-append)

still_unwritten_above : (at count i : ℕ) (written : List (ℕ × ℕ)) → at + count ≤ i → is_written written i ≡ false →
    is_written (written ++ (at, count) ∷ []) i ≡ false
still_unwritten_above at count i written le was = grind (arith, nat_tests, list_any-append)

-- the synced byte where it must stand, and else that of the image
mended_byte : Standing → List ℕ → ℕ → ℕ
mended_byte standing image i =
    cond (ltb i standing.lowest) (cond (is_written standing.written i) (get_or image i 0) (get_or standing.synced i 0)) (get_or image i 0)

mended : Standing → List ℕ → ℕ → List ℕ
mended standing image count = map (mended_byte standing image) (range_with_len 0 count)

mended_fixed : (standing : Standing) (image : List ℕ) (i : ℕ) → i < standing.lowest → is_written standing.written i ≡ false →
    mended_byte standing image i ≡ get_or standing.synced i 0
unfolding mended_byte
mended_fixed standing image i lt un = grind (arith, nat_tests)

mended_free : (standing : Standing) (image : List ℕ) (i : ℕ) →
    (i < standing.lowest → is_written standing.written i ≡ false → get_or image i 0 ≡ get_or standing.synced i 0) →
    mended_byte standing image i ≡ get_or image i 0
unfolding mended_byte
mended_free standing image i same = grind (arith, nat_tests, same)

length-mended : (standing : Standing) (image : List ℕ) (count : ℕ) → length (mended standing image count) ≡ count
unfolding mended
length-mended standing image count = length-map-range_with_len (mended_byte standing image) 0 count

get_or-mended : (standing : Standing) (image : List ℕ) (count i : ℕ) → i < count →
    get_or (mended standing image count) i 0 ≡ mended_byte standing image i
unfolding mended
get_or-mended standing image count i lt = get_or-map-range_with_len (mended_byte standing image) 0 count i i 0 lt (omega arith)

mended_is_image : (standing : Standing) (image : List ℕ) (count : ℕ) → standing.lowest ≤ count → count ≤ standing.highest →
    IsImage standing (mended standing image count)
mended_is_image standing image count low high = record {
  no_shorter = omega (arith, length-mended standing image count);
  no_longer = omega (arith, length-mended standing image count);
  untouched = λ i lt un. get_or-mended standing image count i (omega arith) ∙ mended_fixed standing image i lt un;
}

pub write_follows : (standing : Standing) (at : ℕ) (bytes : List ℕ) → IsInOrder standing → at ≤ length standing.bytes →
    Follows (Torn at (length bytes)) (IsImage standing) (IsImage (after_write at bytes standing))
write_follows standing at bytes order fits image is =
    let count = min (length image) standing.highest in
    let long = length-overwritten at bytes standing.bytes fits in
    let counted = length-mended standing image count in (
      mended standing image count,
      mended_is_image standing image count (omega (arith, is.no_shorter, order.lengths)) (omega arith),
      record {
        no_shorter = omega (arith, counted);
        no_longer = omega (arith, counted, long, is.no_longer, order.present.no_longer);
        below = λ i lt under.
            let free = mended_free standing image i (λ low un. is.untouched i low
            (still_unwritten_below at (length bytes) i standing.written under un)) in
            sym (get_or-mended standing image count i (omega (arith, counted)) ∙ free);
        above = λ i lt over.
            let free = mended_free standing image i (λ low un. is.untouched i low
            (still_unwritten_above at (length bytes) i standing.written over un)) in
            sym (get_or-mended standing image count i (omega (arith, counted)) ∙ free);
      },
    )

pub cut_follows : (standing : Standing) (to : ℕ) → IsInOrder standing → to ≤ length standing.bytes →
    Follows (PartlyCut to) (IsImage standing) (IsImage (after_cut to standing))
cut_follows standing to order fits image is =
    let count = max (length image) standing.lowest in
    let long : length (take to standing.bytes) ≡ to = grind (arith, places) in
    let counted = length-mended standing image count in (
      mended standing image count,
      mended_is_image standing image count (omega arith) (omega (arith, is.no_longer, order.lengths)),
      record {
        no_shorter = omega (arith, counted, long, is.no_shorter);
        no_longer = omega (arith, counted);
        below = λ i lt under.
            let free = mended_free standing image i (λ low un. is.untouched i (omega (arith, long)) un) in
            sym (get_or-mended standing image count i (omega arith) ∙ free);
      },
    )
