-- A new journal that begins with events and a state.
use Rattle.std.proofs.Common.{◌≡◌, ℕ, ◌+◌, ◌<◌, ◌≤◌, ◌^◌, List, [], ◌∷◌, ◌++◌, length, get_or, take, drop, Option, Some, None, inl, inr, refl}
use Rattle.std.proofs.Common.{sym, ◌∙◌, ap, subst, arith, append_assoc, length-append, take-append-drop}
use Rattle.std.specs.Prelude.{IfSome}
use Rattle.std.specs.List.{flat_map}
use Rattle.std.specs.Int.{w32, to_be_bytes}
use Rattle.std.proofs.lemmas.List.{append-nil, drop_more}
use Rattle.std.proofs.lemmas.List.Concat.{flat_map-append}
use Rattle.std.proofs.lemmas.List.Elements.{All-nil, All-cons}
use Rattle.acc_base.specs.declared.machines.Event.{Event}
use Rattle.acc_wal.specs.Spellings.{event_bytes, body}
use Rattle.acc_wal.specs.Items.{item_body}
use Rattle.acc_wal.specs.Journals.{batch, front, IsBatch, IsEnd, CountsAll}
use Rattle.acc_wal.specs.Lists.{RestsWith}
use Rattle.acc_wal.specs.Settling.{record_of}
use Rattle.acc_wal.specs.Creating.{IsReady, LeavesWhole, LeavesFull}
use Rattle.acc_wal.specs.Wals.{IsRecord}
use Rattle.acc_wal.specs.declared.items.Seal.{Seal}
use Rattle.acc_wal.proofs.Counting.{batch_closed}
use Rattle.acc_wal.proofs.Keeping.{is_batch}

-- an event's spelling is part of the body
pub part_of_body : (events : List Event) (i : ℕ) (d : Event) → i < length events →
    length (body (take i events)) + length (event_bytes (get_or events i d)) ≤ length (body events)
unfolding body
part_of_body events i d lt =
    let behind = flat_map event_bytes (drop (i + 1) events) in
    let split : events ≡ take i events ++ (get_or events i d ∷ drop (i + 1) events) =
    sym (take-append-drop i events) ∙ ap (λ (l : List Event). take i events ++ l) (drop_more events i d lt) in
    omega (
      arith,
      ap (λ (l : List Event). length (flat_map event_bytes l)) split,
      ap length (flat_map-append event_bytes (take i events) (get_or events i d ∷ drop (i + 1) events)),
      length-append (flat_map event_bytes (take i events)) (event_bytes (get_or events i d) ++ behind),
      length-append (event_bytes (get_or events i d)) behind,
    )

-- the closed record behind an open gate is a batch and a closed gate
pub ready : (base kept closed staged rest : List ℕ) (events : List Event) (seals : List Seal) (place : ℕ) → kept ≡ base →
    0 < length events + length seals → IsRecord staged 0 2 events seals →
    closed ≡ to_be_bytes w32 (length (drop 4 staged)) ++ drop 4 staged ++ 0 ∷ [] →
    rest ≡ 2 ∷ to_be_bytes w32 (length base) ++ base ++ 0xA5 ∷ closed → place ≡ 6 + length base + length closed →
    IsReady kept events seals rest place
unfolding front batch
ready base kept closed staged rest events seals place same some r closed_is rest_is place_is =
    let record_is : closed ≡ record_of r.items =
    closed_is ∙ ap (λ (b : List ℕ). to_be_bytes w32 (length b) ++ b ++ 0 ∷ []) r.spelled in
    subst (λ (b : List ℕ). IsReady b events seals rest place) (sym same) (record {
      items = r.items;
      are = r.are;
      is_batch = is_batch 2 staged 0 events seals r some;
      rest_is = rest_is ∙ ap (λ (c : List ℕ). 2 ∷ to_be_bytes w32 (length base) ++ base ++ 0xA5 ∷ c) record_is
          ∙ ap (λ (c : List ℕ). 2 ∷ to_be_bytes w32 (length base) ++ base ++ c) (batch_closed r.items);
      place_is = omega (
        arith,
        place_is,
        ap length record_is,
        length-append (to_be_bytes w32 (length (item_body r.items)) ++ item_body r.items) (0 ∷ []),
        length-append (to_be_bytes w32 (length base)) base,
        length-append (to_be_bytes w32 (length base) ++ base) (flat_map batch (r.items ∷ [])),
        ap length (append-nil (batch r.items)),
      );
    })

-- the same of what equals it
pub ready_same : (base kept rest bytes : List ℕ) (events made : List Event) (seals found : List Seal) (place : ℕ) → kept ≡ base →
    made ≡ events → found ≡ seals → bytes ≡ rest → IsReady kept made found rest place → IsReady base events seals bytes place
ready_same base kept rest bytes events made seals found place p q s t r =
    subst (λ (b : List ℕ). IsReady b events seals bytes place) p (subst (λ (es : List Event). IsReady kept es seals bytes place) q
    (subst (λ (ss : List Seal). IsReady kept made ss bytes place) s (subst (λ (l : List ℕ). IsReady kept made found l place) (sym t) r)))

module _ (base : List ℕ) (events : List Event) (seals : List Seal) (rest : List ℕ) (place : ℕ) (fits : length base < 2 ^ 32)
    (r : IsReady base events seals rest place) where
  whole : 0xA5 ∷ rest ≡ front 2 base (r.items ∷ []) ++ 0 ∷ []
  unfolding front
  whole =
      ap (λ (l : List ℕ). 0xA5 ∷ l) r.rest_is
      ∙ ap (λ (l : List ℕ). 0xA5 ∷ 2 ∷ l)
      (sym (append_assoc (to_be_bytes w32 (length base) ++ base) (batch r.items) (0 ∷ [])))
      ∙ ap (λ (l : List ℕ). 0xA5 ∷ 2 ∷ (to_be_bytes w32 (length base) ++ base) ++ l ++ 0 ∷ []) (sym (append-nil (batch r.items)))

  pub full_counts : CountsAll (0xA5 ∷ rest) base 2 events seals
  full_counts = record {
    items = r.items;
    counts = record {
      batches = r.items ∷ [];
      rest = 0 ∷ [];
      known = inr refl;
      base_fits = fits;
      batches_fit = All-cons (IsBatch 2) r.items [] r.is_batch (All-nil (IsBatch 2));
      bytes_are = whole;
      ends = unfold IsEnd in tt;
      items_are = sym (append-nil r.items);
    };
    are = r.are;
  }

  full_rests : RestsWith (0xA5 ∷ rest) base 2 events seals place
  full_rests = record {
    items = r.items;
    rests = record {
      batches = r.items ∷ [];
      known = inr refl;
      base_fits = fits;
      batches_fit = All-cons (IsBatch 2) r.items [] r.is_batch (All-nil (IsBatch 2));
      file_is = whole;
      place_is = r.place_is;
      items_are = sym (append-nil r.items);
    };
    are = r.are;
  }

  -- the new file, told or not, is at rest
  pub told_rests : (told : Option (List ℕ)) → IfSome told (λ now. now ≡ 0xA5 ∷ rest) →
      IfSome told (λ now. RestsWith now base 2 events seals place)
  told_rests None made = tt
  told_rests (Some file) made = subst (λ (f : List ℕ). RestsWith f base 2 events seals place) (sym made) full_rests

  pub told_counts : (told : Option (List ℕ)) → IfSome told (λ now. now ≡ 0xA5 ∷ rest) → IfSome told (λ now. CountsAll now base 2 events seals)
  told_counts None made = tt
  told_counts (Some file) made = subst (λ (f : List ℕ). CountsAll f base 2 events seals) (sym made) full_counts

  -- the whole new file is the new journal
  pub whole_is_full : (file image : List ℕ) → LeavesWhole file rest image → LeavesFull file base events seals image
  whole_is_full file image (inl none) = inl none
  whole_is_full file image (inr (inl all)) = inr (inl (subst (λ (f : List ℕ). CountsAll f base 2 events seals) (sym all) full_counts))
  whole_is_full file image (inr (inr other)) = inr (inr other)
