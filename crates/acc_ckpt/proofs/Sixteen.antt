-- Numbers of sixteen bytes are two of eight, the higher one first.
use Rattle.std.proofs.Common.{◌≡◌, ◌<◌, ◌+◌, ◌*◌, ◌/◌, ◌%◌, ◌^◌, ℕ, List, [], ◌∷◌, ◌++◌, length, get_or, take, drop, refl, sym, ap, ◌∙◌, arith}
use Rattle.std.specs.Int.{from_be_bytes, to_be_bytes, w64, w128}
use Rattle.std.proofs.Math.Nat.{div-div-eq-div-mul}
use Rattle.std.proofs.lemmas.List.{get_or-drop, get_or-take, length-take, length-drop, take-append-drop}
use Rattle.std.proofs.lemmas.Nat.{from_be_bytes-to_be_bytes_8, be_bytes_8}
use Rattle.acc_ckpt.proofs.Bytes.{IsBytes, IsBytes-drop, IsBytes-take}

-- a byte of the higher half
higher : (n p : ℕ) → n / (2 ^ 64 * p) % 256 ≡ n / 2 ^ 64 / p % 256
higher n p = ap (λ m. m % 256) (sym (div-div-eq-div-mul n (2 ^ 64) p))

halves : (n : ℕ) → to_be_bytes w128 n ≡ to_be_bytes w64 (n / 2 ^ 64) ++ to_be_bytes w64 n
halves n = λ i.
    higher n 72057594037927936 i ∷ higher n 281474976710656 i ∷ higher n 1099511627776 i ∷ higher n 4294967296 i ∷ higher n 16777216 i
    ∷ higher n 65536 i ∷ higher n 256 i ∷ n / 2 ^ 64 % 256 ∷ to_be_bytes w64 n

-- more of the higher half changes no byte of the lower one
shifted : (h n : ℕ) → to_be_bytes w64 (h * 2 ^ 64 + n) ≡ to_be_bytes w64 n
shifted h n =
    let at_7 : (h * 2 ^ 64 + n) / 72057594037927936 % 256 ≡ n / 72057594037927936 % 256 = omega arith in
    let at_6 : (h * 2 ^ 64 + n) / 281474976710656 % 256 ≡ n / 281474976710656 % 256 = omega arith in
    let at_5 : (h * 2 ^ 64 + n) / 1099511627776 % 256 ≡ n / 1099511627776 % 256 = omega arith in
    let at_4 : (h * 2 ^ 64 + n) / 4294967296 % 256 ≡ n / 4294967296 % 256 = omega arith in
    let at_3 : (h * 2 ^ 64 + n) / 16777216 % 256 ≡ n / 16777216 % 256 = omega arith in
    let at_2 : (h * 2 ^ 64 + n) / 65536 % 256 ≡ n / 65536 % 256 = omega arith in
    let at_1 : (h * 2 ^ 64 + n) / 256 % 256 ≡ n / 256 % 256 = omega arith in
    let at_0 : (h * 2 ^ 64 + n) % 256 ≡ n % 256 = omega arith in
    λ i. at_7 i ∷ at_6 i ∷ at_5 i ∷ at_4 i ∷ at_3 i ∷ at_2 i ∷ at_1 i ∷ at_0 i ∷ []

value : (bytes : List ℕ) → from_be_bytes w128 bytes ≡ from_be_bytes w64 (take 8 bytes) * 2 ^ 64 + from_be_bytes w64 (drop 8 bytes)
value bytes =
    let front : (i : ℕ) → i < 8 → get_or (take 8 bytes) i 0 ≡ get_or bytes i 0 = λ i lt. get_or-take 8 bytes i 0 lt in
    let back : (i : ℕ) → get_or (drop 8 bytes) i 0 ≡ get_or bytes (8 + i) 0 = λ i. get_or-drop 8 bytes i 0 in
    omega (
      arith,
      front 0 (omega arith),
      front 1 (omega arith),
      front 2 (omega arith),
      front 3 (omega arith),
      front 4 (omega arith),
      front 5 (omega arith),
      front 6 (omega arith),
      front 7 (omega arith),
      back 0,
      back 1,
      back 2,
      back 3,
      back 4,
      back 5,
      back 6,
      back 7,
    )

-- what is written is read again
pub from_be_bytes-to_be_bytes_16 : (n : ℕ) → n < 2 ^ 128 → from_be_bytes w128 (to_be_bytes w128 n) ≡ n
from_be_bytes-to_be_bytes_16 n fits =
    let high : from_be_bytes w64 (to_be_bytes w64 (n / 2 ^ 64)) ≡ n / 2 ^ 64 = from_be_bytes-to_be_bytes_8 (n / 2 ^ 64) (omega arith) in
    let split : n ≡ n / 2 ^ 64 * 2 ^ 64 + n % 2 ^ 64 = omega arith in
    let low : from_be_bytes w64 (to_be_bytes w64 n) ≡ n % 2 ^ 64 =
    ap (λ m. from_be_bytes w64 (to_be_bytes w64 m)) split ∙ ap (from_be_bytes w64) (shifted (n / 2 ^ 64) (n % 2 ^ 64))
    ∙ from_be_bytes-to_be_bytes_8 (n % 2 ^ 64) (omega arith) in
    ap (from_be_bytes w128) (halves n) ∙ value (to_be_bytes w64 (n / 2 ^ 64) ++ to_be_bytes w64 n)
    ∙ ap (λ m. m * 2 ^ 64 + from_be_bytes w64 (to_be_bytes w64 n)) high ∙ ap (λ m. n / 2 ^ 64 * 2 ^ 64 + m) low ∙ sym split

-- what is read is written again
pub be_bytes_16 : (bytes : List ℕ) → length bytes ≡ 16 → IsBytes bytes →
    to_be_bytes w128 (from_be_bytes w128 bytes) ≡ bytes
be_bytes_16 bytes long fits =
    let back : IsBytes (drop 8 bytes) = IsBytes-drop 8 bytes fits in
    let high = from_be_bytes w64 (take 8 bytes) in
    let low = from_be_bytes w64 (drop 8 bytes) in
    let small : low < 2 ^ 64 = omega (arith, back 0, back 1, back 2, back 3, back 4, back 5, back 6, back 7) in
    let top : (high * 2 ^ 64 + low) / 2 ^ 64 ≡ high = omega (arith, small) in
    halves (from_be_bytes w128 bytes)
    ∙ ap (λ n. to_be_bytes w64 (n / 2 ^ 64) ++ to_be_bytes w64 n) (value bytes)
    ∙ ap (λ n. to_be_bytes w64 n ++ to_be_bytes w64 (high * 2 ^ 64 + low)) top
    ∙ ap (λ l. to_be_bytes w64 high ++ l) (shifted high low)
    ∙ ap (λ l. l ++ to_be_bytes w64 low) (be_bytes_8 (take 8 bytes) high (omega (arith, length-take 8 bytes)) (IsBytes-take 8 bytes fits) refl)
    ∙ ap (λ l. take 8 bytes ++ l) (be_bytes_8 (drop 8 bytes) low (omega (arith, length-drop 8 bytes)) back refl)
    ∙ take-append-drop 8 bytes
