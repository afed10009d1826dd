-- Batches behind batches.
use Rattle.std.proofs.Common.{◌≡◌, ◌⊎◌, ℕ, ◌+◌, ◌<◌, ◌≤◌, List, [], ◌∷◌, ◌++◌, length, take, drop, inl, inr, refl, sym, ap, ◌∙◌}
use Rattle.std.proofs.Common.{append_assoc, arith, length-append, length-drop}
use Rattle.std.specs.List.{flat_map}
use Rattle.std.specs.Int.{w32, to_be_bytes}
use Rattle.std.proofs.lemmas.List.{append-nil}
use Rattle.std.proofs.lemmas.Grind.{flat_map-append}
use Rattle.std.proofs.lemmas.List.Elements.{All-nil, All-push, All-append}
use Rattle.std.proofs.lemmas.List.{drop-drop}
use Rattle.acc_wal.specs.Journals.{batch, front, IsBatch}
use Rattle.acc_wal.specs.declared.items.Item.{Item}
use Rattle.acc_wal.proofs.Readings.{IsBytes}
use Rattle.acc_wal.proofs.Taken.{IsBytes-drop}
use Rattle.acc_wal.proofs.Counting.{joined-push}
use Rattle.acc_stream.specs.Streams.{body_long, BeginsWhole, HasText, HasBatches}
use Rattle.acc_stream.specs.Reading.{IsBodyOf, BeginsBatches}
use Rattle.acc_stream.proofs.WholeBatches.{spells_whole}

abbrev Batches : Type 0
Batches = List (List Item)

-- ---- whole batches, one behind the other

pub begins_none : (version : ℕ) (bytes : List ℕ) → BeginsBatches version bytes 0 []
begins_none version bytes = record {
  batches = [];
  batches_fit = All-nil (IsBatch version);
  bytes_are = refl;
  long_is = refl;
  behind = inl refl;
  items_are = refl;
}

module _ (version : ℕ) (bytes : List ℕ) (long : ℕ) (items : List Item) (b : BeginsBatches version bytes long items) where
  pub begins_within : long ≤ length bytes
  begins_within = omega (
    arith,
    ap length b.bytes_are,
    length-append (flat_map batch b.batches) (drop long bytes),
    b.long_is,
    length-drop long bytes,
  )

  -- and one more
  pub begins_more : (more : List Item) → IsBytes bytes → BeginsWhole (drop long bytes) →
      IsBodyOf version (take (body_long (drop long bytes)) (drop 5 (drop long bytes))) more →
      BeginsBatches version bytes (long + (5 + body_long (drop long bytes))) (items ++ more)
  begins_more more fits w o =
      let rest = drop long bytes in
      let n = body_long rest in
      let s = spells_whole version rest more (IsBytes-drop long bytes fits) w o in
      let one : flat_map batch (b.batches ++ more ∷ []) ≡ flat_map batch b.batches ++ batch more =
      flat_map-append batch b.batches (more ∷ []) ∙ ap (λ (l : List ℕ). flat_map batch b.batches ++ l) (append-nil (batch more)) in
      record {
        batches = b.batches ++ more ∷ [];
        batches_fit = All-push (IsBatch version) b.batches more b.batches_fit s.is_batch;
        bytes_are = b.bytes_are ∙ ap (λ (l : List ℕ). flat_map batch b.batches ++ l) (s.parts
            ∙ ap (λ (l : List ℕ). batch more ++ l) (drop-drop (5 + n) long bytes))
            ∙ sym (append_assoc (flat_map batch b.batches) (batch more) (drop (long + (5 + n)) bytes))
            ∙ ap (λ (l : List ℕ). l ++ drop (long + (5 + n)) bytes) (sym one);
        long_is = omega (
          arith,
          b.long_is,
          s.long,
          ap length one,
          length-append (flat_map batch b.batches) (batch more),
        );
        behind = inr (omega (arith, w.whole, length-drop long bytes));
        items_are = ap (λ (l : List Item). l ++ more) b.items_are ∙ sym (joined-push b.batches more);
      }

-- ---- batches behind the base text

pub batches_none : (base bytes : List ℕ) (version : ℕ) (rest : List ℕ) → HasText bytes base version rest →
    HasBatches base bytes version [] (6 + length base) rest
unfolding front
batches_none base bytes version rest h =
    let head = 0xA5 ∷ version ∷ to_be_bytes w32 (length base) ++ base in record {
      batches = [];
      known = h.known;
      base_fits = h.text_fits;
      batches_fit = All-nil (IsBatch version);
      bytes_are = h.bytes_are ∙ ap (λ (l : List ℕ). l ++ rest) (sym (append-nil head));
      behind = inl refl;
      items_are = refl;
      place_is = omega (arith, length-append (to_be_bytes w32 (length base)) base, length-append head []);
    }

front_more : (version : ℕ) (base : List ℕ) (a b : Batches) → front version base (a ++ b) ≡ front version base a ++ flat_map batch b
unfolding front
front_more version base a b =
    let head = 0xA5 ∷ version ∷ to_be_bytes w32 (length base) ++ base in
    ap (λ (l : List ℕ). head ++ l) (flat_map-append batch a b) ∙ sym (append_assoc head (flat_map batch a) (flat_map batch b))

-- behind these, too
behind_both : (a b : Batches) (long : ℕ) (rest : List ℕ) → long ≡ length (flat_map batch b) → (a ≡ []) ⊎ (0 < length rest) →
    (b ≡ []) ⊎ (long < length rest) → ((a ++ b) ≡ []) ⊎ (0 < length (drop long rest))
behind_both a b long rest is p (inr lt) = inr (omega (arith, lt, length-drop long rest))
behind_both a b long rest is (inl none) (inl nothing) = inl (ap (λ (l : Batches). l ++ b) none ∙ nothing)
behind_both a b long rest is (inr lt) (inl nothing) =
    inr (omega (arith, lt, length-drop long rest, is, ap (λ (l : Batches). length (flat_map batch l)) nothing))

pub batches_more : (base bytes : List ℕ) (version : ℕ) (items : List Item) (place : ℕ) (rest : List ℕ) (long : ℕ) (more : List Item) →
    HasBatches base bytes version items place rest → BeginsBatches version rest long more →
    HasBatches base bytes version (items ++ more) (place + long) (drop long rest)
batches_more base bytes version items place rest long more h b = record {
  batches = h.batches ++ b.batches;
  known = h.known;
  base_fits = h.base_fits;
  batches_fit = All-append (IsBatch version) h.batches b.batches h.batches_fit b.batches_fit;
  bytes_are = h.bytes_are ∙ ap (λ (l : List ℕ). front version base h.batches ++ l) b.bytes_are
      ∙ sym (append_assoc (front version base h.batches) (flat_map batch b.batches) (drop long rest))
      ∙ ap (λ (l : List ℕ). l ++ drop long rest) (sym (front_more version base h.batches b.batches));
  behind = behind_both h.batches b.batches long rest b.long_is h.behind b.behind;
  items_are = ap (λ (l : List Item). l ++ more) h.items_are
      ∙ ap (λ (l : List Item). flat_map (λ batch. batch) h.batches ++ l) b.items_are
      ∙ sym (flat_map-append (λ (batch : List Item). batch) h.batches b.batches);
  place_is = omega (
    arith,
    h.place_is,
    b.long_is,
    ap length (front_more version base h.batches b.batches),
    length-append (front version base h.batches) (flat_map batch b.batches),
  );
}
