-- What stays of a file that was written or cut in part, as its front and its end.
use Rattle.std.proofs.Common.{◌≡◌, ℕ, ◌+◌, ◌<◌, ◌≤◌, List, ◌++◌, length, take, drop, refl, sym, ◌∙◌, ap, arith}
use Rattle.std.proofs.lemmas.List.{places, ext_get_or, get_or-take, get_or-drop, length-take-le, length-drop, take_at, drop_at}
use Rattle.std.proofs.lemmas.List.{append_assoc}
use Rattle.acc_disk.specs.Crashes.{overwritten, HoldsAt, Torn, PartlyCut}

-- the front up to the written range
pub take-torn : (at count : ℕ) (old new : List ℕ) → Torn at count old new → at ≤ length old → take at new ≡ take at old
take-torn at count old new torn fits =
    let new_long = length-take-le at new (omega (arith, torn.no_shorter)) in
    let old_long = length-take-le at old fits in
    ext_get_or 0 (take at new) (take at old) (new_long ∙ sym old_long)
    (λ i lt.
    let under : i < at = omega (arith, lt, new_long) in
    get_or-take at new i 0 under ∙ torn.below i (omega arith) under ∙ sym (get_or-take at old i 0 under))

-- the end behind it
pub drop-torn : (at count : ℕ) (old new : List ℕ) → Torn at count old new → drop (at + count) new ≡ drop (at + count) old
drop-torn at count old new torn =
    let new_long = length-drop (at + count) new in
    let old_long = length-drop (at + count) old in
    ext_get_or 0 (drop (at + count) new) (drop (at + count) old)
    (omega (arith, new_long, old_long, torn.no_shorter, torn.no_longer))
    (λ i lt.
    let within : at + count + i < length old = omega (arith, lt, new_long, torn.no_longer) in
    get_or-drop (at + count) new i 0 ∙ torn.above (at + count + i) within (omega arith) ∙ sym (get_or-drop (at + count) old i 0))

-- the front that a cut keeps
pub take-cut : (to : ℕ) (old new : List ℕ) → PartlyCut to old new → to ≤ length old → take to new ≡ take to old
take-cut to old new cut fits =
    let new_long = length-take-le to new (omega (arith, cut.no_shorter)) in
    let old_long = length-take-le to old fits in
    ext_get_or 0 (take to new) (take to old) (new_long ∙ sym old_long)
    (λ i lt.
    let under : i < to = omega (arith, lt, new_long) in
    get_or-take to new i 0 under ∙ cut.below i (omega (arith, cut.no_shorter)) under ∙ sym (get_or-take to old i 0 under))

-- a write is a part of itself, and holds what it wrote
pub overwritten-torn : (at : ℕ) (bytes file : List ℕ) → at ≤ length file → Torn at (length bytes) file (overwritten at bytes file)
overwritten-torn at bytes file fits = record {
  no_shorter = grind (arith, places);
  no_longer = grind (arith, places);
  below = λ i lt under. grind (arith, places);
  above = λ i lt over. grind (arith, places);
}

pub overwritten-holds : (at : ℕ) (bytes file : List ℕ) → at ≤ length file → HoldsAt (overwritten at bytes file) at bytes
overwritten-holds at bytes file fits =
    let front : length (take at file) ≡ at = length-take-le at file fits in
    ap (λ rest. take (length bytes) rest)
    (ap (λ whole. drop at whole) (append_assoc (take at file) bytes (drop (at + length bytes) file)) ∙ drop_at (take at file)
    (bytes ++ drop (at + length bytes) file) at front)
    ∙ take_at bytes (drop (at + length bytes) file) (length bytes) refl
