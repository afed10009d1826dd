-- What stands before the batches.
use Rattle.std.proofs.Common.{◌≡◌, ℕ, ◌+◌, ◌≤◌, List, [], ◌∷◌, ◌++◌, length, get_or, take, drop, Option, Some, None, inl, inr}
use Rattle.std.proofs.Common.{sym, ap, subst, ◌∙◌, append_assoc, arith, length-append, length-drop, take-append-drop}
use Rattle.std.specs.List.{flat_map}
use Rattle.std.specs.Int.{w32, to_be_bytes, from_be_bytes}
use Rattle.std.proofs.lemmas.List.{length-take, drop-drop}
use Rattle.acc_wal.specs.Journals.{batch, front, IsKnown}
use Rattle.acc_wal.specs.declared.items.Item.{Item}
use Rattle.acc_wal.proofs.Readings.{IsBytes}
use Rattle.acc_wal.proofs.Taken.{IsBytes-drop}
use Rattle.acc_wal.proofs.Once.{counted_fronts}
use Rattle.acc_stream.specs.declared.faults.Fault.{Fault}
use Rattle.acc_stream.specs.declared.faults.Fault.TheVariants.{NotJournal, OtherVersion, OtherBase, Damaged, Past}
use Rattle.acc_stream.specs.Streams.{text_long, HasText, HasNone, HasBatches}
use Rattle.acc_stream.specs.Reading.{BeginsAs}
use Rattle.acc_stream.proofs.FourBytes.{four_read, four_again}

module _ (bytes text : List ℕ) (version : ℕ) (rest : List ℕ) (h : HasText bytes text version rest) where
  pub text_first : get_or bytes 0 0 ≡ 0xA5
  text_first = ap (λ (l : List ℕ). get_or l 0 0) h.bytes_are

  pub text_second : get_or bytes 1 0 ≡ version
  text_second = ap (λ (l : List ℕ). get_or l 1 0) h.bytes_are

  pub text_length : length bytes ≡ 6 + length text + length rest
  text_length = omega (
    arith,
    ap length h.bytes_are,
    length-append (0xA5 ∷ version ∷ to_be_bytes w32 (length text) ++ text) rest,
    length-append (to_be_bytes w32 (length text)) text,
  )

  pub text_long_is : text_long bytes ≡ length text
  text_long_is =
      ap (λ (l : List ℕ). from_be_bytes w32 (take 4 l)) (ap (drop 2) h.bytes_are ∙ append_assoc (to_be_bytes w32 (length text)) text rest)
      ∙ four_again (length text) (text ++ rest) h.text_fits

  -- where another text stands, it isn't this one
  pub one_text : (other : List ℕ) (another : ℕ) (behind : List ℕ) → HasText bytes other another behind →
      (other ≡ text) × (another ≡ version) × (behind ≡ rest)
  one_text other another behind o =
      let same = sym o.bytes_are ∙ h.bytes_are in
      let apart = counted_fronts other text behind rest o.text_fits h.text_fits (ap (drop 2) same) in
      (apart.0, ap (λ (l : List ℕ). get_or l 1 0) same, apart.1)

-- where the text that is wanted stands, batches are read
pub reads_batches : (base bytes : List ℕ) (version : ℕ) (rest : List ℕ) (ended : Option Fault) → HasText bytes base version rest →
    HasNone base bytes ended → ⊥
reads_batches base bytes version rest None h n =
    let long = text_length bytes base version rest h in
    let size = text_long_is bytes base version rest h in
    elim n.cut [
      | inl lt ↦ omega (arith, lt, long)
      | inr lt ↦ omega (arith, lt, long, size)
    ]
reads_batches base bytes version rest (Some NotJournal) h n = n.other (text_first bytes base version rest h)
reads_batches base bytes version rest (Some (OtherVersion other)) h n =
    n.other (subst IsKnown (sym (text_second bytes base version rest h) ∙ n.second) h.known)
reads_batches base bytes version rest (Some OtherBase) h n =
    n.other (one_text bytes base version rest h n.text n.version n.rest n.has).0
reads_batches base bytes version rest (Some (Damaged place)) h n = n
reads_batches base bytes version rest (Some (Past place)) h n = n

-- before batches stands their text
pub text_of_batches : (base bytes : List ℕ) (version : ℕ) (items : List Item) (place : ℕ) (rest : List ℕ) →
    (h : HasBatches base bytes version items place rest) → HasText bytes base version (flat_map batch h.batches ++ rest)
unfolding front
text_of_batches base bytes version items place rest h = record {
  known = h.known;
  text_fits = h.base_fits;
  bytes_are = h.bytes_are ∙ append_assoc (0xA5 ∷ version ∷ to_be_bytes w32 (length base) ++ base) (flat_map batch h.batches) rest;
}

-- ---- a text that is whole

two_first : (bytes : List ℕ) (version : ℕ) → BeginsAs bytes version → bytes ≡ 0xA5 ∷ version ∷ drop 2 bytes
two_first [] version b = absurd (omega (arith, b.long))
two_first (x ∷ []) version b = absurd (omega (arith, b.long))
two_first (x ∷ y ∷ l) version b = ap (λ n. n ∷ y ∷ l) b.first ∙ ap (λ n. 0xA5 ∷ n ∷ l) b.second

pub whole_text : (bytes text : List ℕ) (version : ℕ) → IsBytes bytes → BeginsAs bytes version → 6 + text_long bytes ≤ length bytes →
    text ≡ take (text_long bytes) (drop 6 bytes) → (HasText bytes text version (drop (6 + text_long bytes) bytes)) × (length text ≡ text_long bytes)
whole_text bytes text version fits begins whole is =
    let n = text_long bytes in
    let four = four_read (drop 2 bytes) (IsBytes-drop 2 bytes fits) (omega (arith, length-drop 2 bytes, whole)) in
    let size : length text ≡ n = omega (arith, ap length is, length-take n (drop 6 bytes), length-drop 6 bytes, whole) in
    let behind : drop 4 (drop 2 bytes) ≡ text ++ drop (6 + n) bytes =
    drop-drop 4 2 bytes ∙ sym (take-append-drop n (drop 6 bytes)) ∙ ap (λ (l : List ℕ). l ++ drop n (drop 6 bytes)) (sym is)
    ∙ ap (λ (l : List ℕ). text ++ l) (drop-drop n 6 bytes) in (
      record {
        known = begins.known;
        text_fits = omega (arith, size, four.1);
        bytes_are = two_first bytes version begins ∙ ap (λ (l : List ℕ). 0xA5 ∷ version ∷ l) (four.0
            ∙ ap (λ (l : List ℕ). to_be_bytes w32 n ++ l) behind ∙ sym (append_assoc (to_be_bytes w32 n) text (drop (6 + n) bytes))
            ∙ ap (λ k. to_be_bytes w32 k ++ text ++ drop (6 + n) bytes) (sym size));
      },
      size,
    )
