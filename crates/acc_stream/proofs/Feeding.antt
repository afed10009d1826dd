-- A stream that is fed.
use Rattle.std.proofs.Common.{◌≡◌, ◌≢◌, ℕ, ◌+◌, ◌-◌, ◌≤◌, List, [], ◌∷◌, ◌++◌, length, take, drop, Option, Some, None, inl, inr, refl, sym}
use Rattle.std.proofs.Common.{ap, subst, ◌∙◌, append_assoc, arith, length-append}
use Rattle.std.specs.Int.{w32, to_be_bytes}
use Rattle.std.proofs.lemmas.List.{drop-drop, take_rest}
use Rattle.acc_wal.specs.Journals.{front, IsKnown}
use Rattle.acc_wal.specs.declared.items.Item.{Item}
use Rattle.acc_stream.specs.declared.batches.Found.{Found}
use Rattle.acc_stream.specs.declared.faults.Fault.{Fault}
use Rattle.acc_stream.specs.declared.faults.Fault.TheVariants.{NotJournal, OtherVersion, OtherBase, Damaged, Past}
use Rattle.acc_stream.specs.Streams.{HasText, HasNone, HasBatches, StopsAt, IsStream}
use Rattle.acc_stream.specs.Following.{Streamed, IsUnread, Awaits, Follows}
use Rattle.acc_stream.specs.Reading.{ReadsOn}
use Rattle.acc_stream.proofs.WholeBatches.{byte_stays, whole_stays, batch_was}
use Rattle.acc_stream.proofs.Joining.{batches_none, batches_more}

-- ---- faults stay

module _ (base fed piece : List ℕ) where
  text_stays : (text : List ℕ) (version : ℕ) (rest : List ℕ) → HasText fed text version rest →
      HasText (fed ++ piece) text version (rest ++ piece)
  text_stays text version rest h = record {
    known = h.known;
    text_fits = h.text_fits;
    bytes_are = ap (λ (l : List ℕ). l ++ piece) h.bytes_are
        ∙ append_assoc (0xA5 ∷ version ∷ to_be_bytes w32 (length text) ++ text) rest piece;
  }

  none_stays : (fault : Fault) → HasNone base fed (Some fault) → HasNone base (fed ++ piece) (Some fault)
  none_stays NotJournal n = record {
    come = omega (arith, n.come, length-append fed piece);
    other = λ is. n.other (sym (byte_stays fed piece 0 n.come) ∙ is);
  }
  none_stays (OtherVersion version) n = record {
    long = omega (arith, n.long, length-append fed piece);
    first = byte_stays fed piece 0 (omega (arith, n.long)) ∙ n.first;
    second = byte_stays fed piece 1 n.long ∙ n.second;
    other = n.other;
  }
  none_stays OtherBase n = record {
    text = n.text;
    version = n.version;
    rest = n.rest ++ piece;
    has = text_stays n.text n.version n.rest n.has;
    other = n.other;
  }
  none_stays (Damaged place) n = absurd n
  none_stays (Past place) n = absurd n

  batches_stay : (version : ℕ) (items : List Item) (place : ℕ) (rest : List ℕ) → HasBatches base fed version items place rest →
      HasBatches base (fed ++ piece) version items place (rest ++ piece)
  batches_stay version items place rest h = record {
    batches = h.batches;
    known = h.known;
    base_fits = h.base_fits;
    batches_fit = h.batches_fit;
    bytes_are = ap (λ (l : List ℕ). l ++ piece) h.bytes_are ∙ append_assoc (front version base h.batches) rest piece;
    behind = elim h.behind [
      | inl none ↦ inl none
      | inr lt ↦ inr (omega (arith, lt, length-append rest piece))
    ];
    items_are = h.items_are;
    place_is = h.place_is;
  }

  stop_stays : (version place : ℕ) (rest : List ℕ) (fault : Fault) → StopsAt version place rest (Some fault) →
      StopsAt version place (rest ++ piece) (Some fault)
  stop_stays version place rest (Damaged at) s = (s.0, (whole_stays rest piece s.1).0, λ b. s.2 (batch_was rest piece version s.1 b))
  stop_stays version place rest (Past at) s = (
    s.0,
    record {
      behind = omega (arith, s.1.behind, length-append rest piece);
      shut = λ is. s.1.shut (sym (byte_stays rest piece 0 (omega (arith, s.1.behind))) ∙ is);
    },
  )
  stop_stays version place rest NotJournal s = absurd s
  stop_stays version place rest (OtherVersion other) s = absurd s
  stop_stays version place rest OtherBase s = absurd s

  stream_stays : (items : List Item) (fault : Fault) → IsStream base fed items (Some fault) →
      IsStream base (fed ++ piece) items (Some fault)
  stream_stays items fault (inl p) = inl (p.0, none_stays fault p.1)
  stream_stays items fault (inr p) = inr (
    p.0,
    p.1,
    p.2 ++ piece,
    batches_stay p.0 items p.1 p.2 p.3,
    stop_stays p.0 p.1 p.2 fault p.4,
  )

-- behind a fault nothing is kept
pub follows_fault : (fed piece : List ℕ) (taken : List Item) (s : Streamed) (ended : Option Fault) → s.ended ≡ ended → ended ≢ None →
    Follows fed taken s → Follows (fed ++ piece) taken s
follows_fault fed piece taken s None is some f = absurd (some refl)
follows_fault fed piece taken s (Some fault) is some f = record {
  stream = subst (λ o. IsStream s.base (fed ++ piece) (taken ++ s.waiting) o) (sym is)
      (stream_stays s.base fed piece (taken ++ s.waiting) fault
      (subst (λ o. IsStream s.base fed (taken ++ s.waiting) o) is f.stream));
  goes_on = λ none. absurd (let e = sym none ∙ is in cc);
}

-- ---- a piece that is kept

abbrev pub with_piece : Streamed → List ℕ → Streamed
with_piece s piece = record s { kept = s.kept ++ piece }

pub awaits_piece : (fed piece : List ℕ) (taken : List Item) (s : Streamed) → Awaits fed taken s →
    Awaits (fed ++ piece) taken (with_piece s piece)
awaits_piece fed piece taken s a = record {
  open_ended = a.open_ended;
  keeps = elim a.keeps [
    | inl u ↦ inl (record {
      version_is = u.version_is;
      place_is = u.place_is;
      kept_is = ap (λ (l : List ℕ). l ++ piece) u.kept_is;
      taken_are = u.taken_are;
      waiting_are = u.waiting_are;
    })
    | inr r ↦ inr (batches_stay s.base fed piece s.version (taken ++ s.waiting) s.place s.kept r)
  ];
}

-- ---- reading on

-- what batches leave of a stream
abbrev pub with_found : Streamed → ℕ → ℕ → Found → Streamed
with_found s version at found = record s {
  version = version;
  place = s.place + (at + found.long);
  kept = drop (at + found.long) s.kept;
  waiting = s.waiting ++ found.items;
  ended = found.ended;
}

pub follows_found : (fed : List ℕ) (taken : List Item) (s : Streamed) (version at : ℕ) (found : Found) → at ≤ length s.kept →
    HasBatches s.base fed version (taken ++ s.waiting) (s.place + at) (drop at s.kept) →
    ReadsOn version (s.place + at) (drop at s.kept) found → Follows fed taken (with_found s version at found)
follows_found fed taken s version at found within h r =
    let joined = batches_more s.base fed version (taken ++ s.waiting) (s.place + at) (drop at s.kept) found.long found.items h r.begins in
    let place_is : s.place + at + found.long ≡ s.place + (at + found.long) = omega arith in
    let rest_is : drop found.long (drop at s.kept) ≡ drop (at + found.long) s.kept = drop-drop found.long at s.kept in
    let has : HasBatches s.base fed version (taken ++ (s.waiting ++ found.items)) (s.place + (at + found.long)) (drop (at + found.long) s.kept) =
    subst (λ (l : List ℕ). HasBatches s.base fed version (taken ++ (s.waiting ++ found.items)) (s.place + (at + found.long)) l) rest_is
    (subst (λ n. HasBatches s.base fed version (taken ++ (s.waiting ++ found.items)) n (drop found.long (drop at s.kept))) place_is
    (subst (λ (l : List Item). HasBatches s.base fed version l (s.place + at + found.long) (drop found.long (drop at s.kept)))
    (append_assoc taken s.waiting found.items) joined)) in
    let stops : StopsAt version (s.place + (at + found.long)) (drop (at + found.long) s.kept) found.ended =
    subst (λ (l : List ℕ). StopsAt version (s.place + (at + found.long)) l found.ended) rest_is
    (subst (λ n. StopsAt version n (drop found.long (drop at s.kept)) found.ended) place_is r.stops) in
    record {
      stream = inr (version, s.place + (at + found.long), drop (at + found.long) s.kept, has, stops);
      goes_on = λ none. record { open_ended = none; keeps = inr has };
    }

-- the same of what is shown in the end, where the bytes were a slice
pub follows_shown : (fed : List ℕ) (taken : List Item) (s : Streamed) (version at : ℕ) (found : Found) (bytes kept : List ℕ) (waiting : List Item) →
    at ≤ length s.kept → bytes ≡ s.kept → kept ≡ drop (at + found.long) s.kept → waiting ≡ s.waiting ++ found.items →
    HasBatches s.base fed version (taken ++ s.waiting) (s.place + at) (drop at s.kept) →
    ReadsOn version (s.place + at) (take (length bytes - at) (drop at bytes)) found →
    Follows fed taken (record s {
      version = version;
      place = s.place + (at + found.long);
      kept = kept;
      waiting = waiting;
      ended = found.ended;
    })
follows_shown fed taken s version at found bytes kept waiting within are kept_is waiting_are h r =
    let slice : take (length bytes - at) (drop at bytes) ≡ drop at s.kept = take_rest bytes at ∙ ap (drop at) are in
    subst (λ (l : List Item). Follows fed taken (record (with_found s version at found) { kept = kept; waiting = l })) (sym waiting_are)
    (subst (λ (l : List ℕ). Follows fed taken (record (with_found s version at found) { kept = l })) (sym kept_is)
    (follows_found fed taken s version at found within h
    (subst (λ (l : List ℕ). ReadsOn version (s.place + at) l found) slice r)))

-- where the base text is known to be whole
pub read_again : (fed : List ℕ) (taken : List Item) (s : Streamed) → s.version ≢ 0 → Awaits fed taken s →
    HasBatches s.base fed s.version (taken ++ s.waiting) (s.place + 0) (drop 0 s.kept)
read_again fed taken s some a = elim a.keeps [
  | inl u ↦ absurd (some u.version_is)
  | inr r ↦
      let same : s.place ≡ s.place + 0 = omega arith in
      subst (λ n. HasBatches s.base fed s.version (taken ++ s.waiting) n s.kept) same r
]

zero_unknown : (version : ℕ) → version ≡ 0 → IsKnown version → ⊥
zero_unknown version is (inl one) = omega (arith, is, one)
zero_unknown version is (inr two) = omega (arith, is, two)

-- where it isn't
pub unread : (fed : List ℕ) (taken : List Item) (s : Streamed) → s.version ≡ 0 → Awaits fed taken s → IsUnread fed taken s
unread fed taken s none a = elim a.keeps [
  | inl u ↦ u
  | inr r ↦ absurd (zero_unknown s.version none r.known)
]

-- where it is whole now
pub read_first : (fed : List ℕ) (taken : List Item) (s : Streamed) (version at : ℕ) → s.version ≡ 0 → Awaits fed taken s →
    HasText s.kept s.base version (drop at s.kept) → at ≡ 6 + length s.base →
    HasBatches s.base fed version (taken ++ s.waiting) (s.place + at) (drop at s.kept)
read_first fed taken s version at none a h is =
    let u = unread fed taken s none a in
    let place_is : 6 + length s.base ≡ s.place + at = omega (arith, is, u.place_is) in
    let empty : [] ≡ taken ++ s.waiting =
    ap (λ (l : List Item). l ++ []) (sym u.taken_are) ∙ ap (λ (l : List Item). taken ++ l) (sym u.waiting_are) in
    subst (λ (l : List Item). HasBatches s.base fed version l (s.place + at) (drop at s.kept)) empty
    (subst (λ n. HasBatches s.base fed version [] n (drop at s.kept)) place_is
    (subst (λ (l : List ℕ). HasBatches s.base l version [] (6 + length s.base) (drop at s.kept)) u.kept_is
    (batches_none s.base s.kept version (drop at s.kept) h)))

-- where no batch is read yet, or never
pub follows_none : (fed : List ℕ) (taken : List Item) (s : Streamed) (ended : Option Fault) → Awaits fed taken s → s.version ≡ 0 →
    HasNone s.base s.kept ended → Follows fed taken (record s { ended = ended })
follows_none fed taken s ended a none h =
    let u = unread fed taken s none a in record {
      stream = inl (
        ap (λ (l : List Item). l ++ s.waiting) u.taken_are ∙ u.waiting_are,
        subst (λ (l : List ℕ). HasNone s.base l ended) u.kept_is h,
      );
      goes_on = λ open_ended. record {
        open_ended = open_ended;
        keeps = inl (record {
          version_is = u.version_is;
          place_is = u.place_is;
          kept_is = u.kept_is;
          taken_are = u.taken_are;
          waiting_are = u.waiting_are;
        });
      };
    }

-- the same of what is shown
pub awaits_shown : (fed piece : List ℕ) (taken : List Item) (s : Streamed) (kept : List ℕ) → s.ended ≡ None → kept ≡ s.kept ++ piece →
    Follows fed taken s → Awaits (fed ++ piece) taken (record s { kept = kept })
awaits_shown fed piece taken s kept none is f =
    subst (λ (l : List ℕ). Awaits (fed ++ piece) taken (record s { kept = l })) (sym is)
    (awaits_piece fed piece taken s (f.goes_on none))
