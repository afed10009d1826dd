-- Numbers of four bytes.
use Rattle.std.proofs.Common.{◌≡◌, ℕ, ◌^◌, ◌<◌, ◌≤◌, false, ltb, List, ◌++◌, length, take, drop, Some, refl, ap, ◌∙◌}
use Rattle.std.specs.Int.{w32, to_be_bytes, from_be_bytes}
use Rattle.std.proofs.lemmas.Bool.{le-ltb}
use Rattle.std.proofs.lemmas.List.{take_at}
use Rattle.std.proofs.lemmas.Nat.{from_be_bytes-to_be_bytes_4}
use Rattle.acc_wal.specs.Reading.{number_at}
use Rattle.acc_wal.proofs.Readings.{IsBytes}
use Rattle.acc_wal.proofs.Taken.{read32, number_takes}

-- four bytes spell the number that is read of them
pub four_read : (l : List ℕ) → IsBytes l → 4 ≤ length l →
    (l ≡ to_be_bytes w32 (from_be_bytes w32 (take 4 l)) ++ drop 4 l) × (from_be_bytes w32 (take 4 l) < 2 ^ 32)
four_read l fits long =
    let enough : ltb (length l) 4 ≡ false = le-ltb (length l) 4 long in
    let some : number_at w32 l ≡ Some (from_be_bytes w32 (take 4 l), drop 4 l) = rw enough refl in
    let t = number_takes w32 (2 ^ 32) read32 l (from_be_bytes w32 (take 4 l)) (drop 4 l) fits some in (t.0.parts, t.1)

-- and one that is spelled is read again
pub four_again : (n : ℕ) (rest : List ℕ) → n < 2 ^ 32 → from_be_bytes w32 (take 4 (to_be_bytes w32 n ++ rest)) ≡ n
four_again n rest lt = ap (from_be_bytes w32) (take_at (to_be_bytes w32 n) rest 4 refl) ∙ from_be_bytes-to_be_bytes_4 n lt
