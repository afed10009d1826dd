-- Batches that are whole.
use Rattle.std.proofs.Common.{◌≡◌, ℕ, ◌+◌, ◌^◌, ◌<◌, ◌≤◌, List, [], ◌∷◌, ◌++◌, length, get_or, take, drop, refl, sym, ap, ◌∙◌}
use Rattle.std.proofs.Common.{append_assoc, arith, length-append, length-drop, take-append-drop}
use Rattle.std.specs.Int.{w32, to_be_bytes, from_be_bytes}
use Rattle.std.proofs.lemmas.List.{length-take, drop-drop, take_at, take-append-le, drop-append-le, get_or_append_left, drop_more}
use Rattle.acc_wal.specs.Items.{item_body}
use Rattle.acc_wal.specs.Journals.{batch, IsBatch}
use Rattle.acc_wal.specs.Bodies.{BeginsBatch}
use Rattle.acc_wal.specs.declared.items.Item.{Item}
use Rattle.acc_wal.proofs.Readings.{IsBytes}
use Rattle.acc_wal.proofs.Taken.{IsBytes-drop}
use Rattle.acc_stream.specs.Streams.{body_long, BeginsWhole}
use Rattle.acc_stream.specs.Reading.{IsBodyOf}
use Rattle.acc_stream.proofs.FourBytes.{four_read, four_again}

-- the parts of a whole batch, and that its length is a number of four bytes
whole_parts : (bytes : List ℕ) → IsBytes bytes → BeginsWhole bytes →
    (bytes ≡ 0xA5 ∷ to_be_bytes w32 (body_long bytes) ++ take (body_long bytes) (drop 5 bytes) ++ drop (5 + body_long bytes) bytes)
    × (body_long bytes < 2 ^ 32)
whole_parts [] fits w = absurd (omega (arith, w.whole))
whole_parts (gate ∷ l) fits w =
    let n = body_long (gate ∷ l) in
    let four = four_read l (IsBytes-drop 1 (gate ∷ l) fits) (omega (arith, w.whole)) in
    let behind : drop 4 l ≡ take n (drop 5 (gate ∷ l)) ++ drop (5 + n) (gate ∷ l) =
    sym (take-append-drop n (drop 4 l)) ∙ ap (λ (x : List ℕ). take n (drop 4 l) ++ x) (drop-drop n 5 (gate ∷ l)) in (
      ap (λ g. g ∷ l) w.opened ∙ ap (λ (x : List ℕ). 0xA5 ∷ x) (four.0 ∙ ap (λ (x : List ℕ). to_be_bytes w32 n ++ x) behind
          ∙ sym (append_assoc (to_be_bytes w32 n) (take n (drop 5 (gate ∷ l))) (drop (5 + n) (gate ∷ l)))),
      four.1,
    )

-- whose body spells some items
pub record SpellsWhole (version : ℕ) (bytes : List ℕ) (items : List Item) : Type 0 where
  pub is_batch : IsBatch version items
  pub parts : bytes ≡ batch items ++ drop (5 + body_long bytes) bytes
  pub long : length (batch items) ≡ 5 + body_long bytes

pub spells_whole : (version : ℕ) (bytes : List ℕ) (items : List Item) → IsBytes bytes → BeginsWhole bytes →
    IsBodyOf version (take (body_long bytes) (drop 5 bytes)) items → SpellsWhole version bytes items
unfolding batch
spells_whole version bytes items fits w b =
    let n = body_long bytes in
    let p = whole_parts bytes fits w in
    let size : length (item_body items) ≡ n = omega (
      arith,
      ap length b.spelled,
      length-take n (drop 5 bytes),
      length-drop 5 bytes,
      w.whole,
    ) in record {
      is_batch = record { some = b.some; fits = b.fits; short = omega (arith, size, p.1) };
      parts = p.0 ∙ ap (λ (l : List ℕ). 0xA5 ∷ to_be_bytes w32 n ++ l ++ drop (5 + n) bytes) b.spelled
          ∙ ap (λ k. 0xA5 ∷ to_be_bytes w32 k ++ item_body items ++ drop (5 + n) bytes) (sym size);
      long = omega (arith, size);
    }

-- ---- where a batch is spelled

module _ (bytes : List ℕ) (version : ℕ) (b : BeginsBatch bytes version) where
  behind_gate : drop 1 bytes ≡ to_be_bytes w32 (length (item_body b.all)) ++ (item_body b.all ++ b.next ∷ b.after)
  unfolding batch
  behind_gate = ap (drop 1) b.spelled ∙ append_assoc (to_be_bytes w32 (length (item_body b.all))) (item_body b.all) (b.next ∷ b.after)

  body_is : body_long bytes ≡ length (item_body b.all)
  body_is =
      ap (λ (l : List ℕ). from_be_bytes w32 (take 4 l)) behind_gate
      ∙ four_again (length (item_body b.all)) (item_body b.all ++ b.next ∷ b.after) b.fits.short

  -- it is whole
  pub begins_whole : BeginsWhole bytes
  unfolding batch
  begins_whole = record {
    opened = ap (λ (l : List ℕ). get_or l 0 0) b.spelled;
    whole = omega (arith, body_is, ap length b.spelled, length-append (batch b.all) (b.next ∷ b.after));
  }

  -- and its body spells its items
  pub begins_body : IsBodyOf version (take (body_long bytes) (drop 5 bytes)) b.all
  unfolding batch
  begins_body = record {
    some = b.fits.some;
    fits = b.fits.fits;
    spelled = ap (take (body_long bytes)) (sym (drop-drop 4 1 bytes) ∙ ap (drop 4) behind_gate)
        ∙ take_at (item_body b.all) (b.next ∷ b.after) (body_long bytes) (sym body_is);
  }

-- ---- more bytes behind it

module _ (bytes more : List ℕ) where
  -- a byte that is there stays
  pub byte_stays : (i : ℕ) → i < length bytes → get_or (bytes ++ more) i 0 ≡ get_or bytes i 0
  byte_stays i lt = get_or_append_left bytes more 0 i lt

  -- and so does a number of four bytes
  pub four_stays : (i : ℕ) → i + 4 ≤ length bytes → take 4 (drop i (bytes ++ more)) ≡ take 4 (drop i bytes)
  four_stays i le =
      ap (take 4) (drop-append-le i bytes more (omega (arith, le)))
      ∙ take-append-le 4 (drop i bytes) more (omega (arith, length-drop i bytes, le))

  pub whole_stays : BeginsWhole bytes → (BeginsWhole (bytes ++ more)) × (body_long (bytes ++ more) ≡ body_long bytes)
  whole_stays w =
      let long : body_long (bytes ++ more) ≡ body_long bytes = ap (from_be_bytes w32) (four_stays 1 (omega (arith, w.whole))) in (
        record {
          opened = byte_stays 0 (omega (arith, w.whole)) ∙ w.opened;
          whole = omega (arith, w.whole, long, length-append bytes more);
        },
        long,
      )

  -- what is whole and spelled with them is spelled without
  pub batch_was : (version : ℕ) → BeginsWhole bytes → BeginsBatch (bytes ++ more) version → BeginsBatch bytes version
  unfolding batch
  batch_was version w b =
      let stays = whole_stays w in
      let long : length (batch b.all) ≡ 5 + body_long bytes = omega (arith, body_is (bytes ++ more) version b, stays.1) in
      let k = length (batch b.all) in
      let lt : k < length bytes = omega (arith, long, w.whole) in
      let front : take k bytes ≡ batch b.all =
      sym (take-append-le k bytes more (omega (arith, lt))) ∙ ap (take k) b.spelled ∙ take_at (batch b.all) (b.next ∷ b.after) k refl in
      record {
        all = b.all;
        next = get_or bytes k 0;
        after = drop (k + 1) bytes;
        fits = b.fits;
        spelled = sym (take-append-drop k bytes) ∙ ap (λ (l : List ℕ). l ++ drop k bytes) front
            ∙ ap (λ (l : List ℕ). batch b.all ++ l) (drop_more bytes k 0 lt);
      }
