-- Bytes say one thing.
use Rattle.std.proofs.Common.{◌≡◌, ◌⊎◌, ℕ, ◌<◌, List, [], ◌∷◌, ◌++◌, length, All, Option, Some, None, inl, inr, refl, sym, ap}
use Rattle.std.proofs.Common.{subst, ◌∙◌, append_assoc, arith, length-append}
use Rattle.std.specs.List.{flat_map}
use Rattle.std.proofs.lemmas.List.Elements.{All-head, All-tail}
use Rattle.acc_wal.specs.Journals.{batch, front, IsBatch, IsKnown, IsEnd, CountsItems}
use Rattle.acc_wal.specs.Bodies.{BeginsBatch}
use Rattle.acc_wal.specs.declared.items.Item.{Item}
use Rattle.acc_wal.proofs.Once.{one_batch, end_long}
use Rattle.acc_stream.specs.declared.faults.Fault.{Fault}
use Rattle.acc_stream.specs.declared.faults.Fault.TheVariants.{NotJournal, OtherVersion, OtherBase, Damaged, Past}
use Rattle.acc_stream.specs.Streams.{MayBegin, HasNone, HasBatches, StopsAt, IsStream, AreWhole}
use Rattle.acc_stream.proofs.WholeBatches.{begins_whole}
use Rattle.acc_stream.proofs.Texts.{text_first, text_second, text_length, text_long_is, one_text, reads_batches, text_of_batches}

abbrev Batches : Type 0
Batches = List (List Item)

-- ---- before the batches

-- what may begin a journal has no fault
no_fault : (base bytes : List ℕ) (fault : Fault) → MayBegin bytes → HasNone base bytes (Some fault) → ⊥
no_fault base bytes NotJournal m n = elim m.first [
  | inl lt ↦ omega (arith, lt, n.come)
  | inr is ↦ n.other is
]
no_fault base bytes (OtherVersion version) m n = elim m.second [
  | inl lt ↦ omega (arith, lt, n.long)
  | inr known ↦ n.other (subst IsKnown n.second known)
]
no_fault base bytes OtherBase m n =
    let long = text_length bytes n.text n.version n.rest n.has in
    let size = text_long_is bytes n.text n.version n.rest n.has in
    elim m.cut [
      | inl lt ↦ omega (arith, lt, long)
      | inr lt ↦ omega (arith, lt, long, size)
    ]
no_fault base bytes (Damaged place) m n = n
no_fault base bytes (Past place) m n = n

one_none : (base bytes : List ℕ) (x y : Option Fault) → HasNone base bytes x → HasNone base bytes y → x ≡ y
one_none base bytes None None p q = refl
one_none base bytes None (Some fault) p q = absurd (no_fault base bytes fault p q)
one_none base bytes (Some fault) None p q = absurd (no_fault base bytes fault q p)
one_none base bytes (Some NotJournal) (Some NotJournal) p q = refl
one_none base bytes (Some NotJournal) (Some (OtherVersion version)) p q = absurd (p.other q.first)
one_none base bytes (Some NotJournal) (Some OtherBase) p q = absurd (p.other (text_first bytes q.text q.version q.rest q.has))
one_none base bytes (Some NotJournal) (Some (Damaged place)) p q = absurd q
one_none base bytes (Some NotJournal) (Some (Past place)) p q = absurd q
one_none base bytes (Some (OtherVersion version)) (Some NotJournal) p q = absurd (q.other p.first)
one_none base bytes (Some (OtherVersion version)) (Some (OtherVersion other)) p q =
    ap (λ v. Some (OtherVersion v)) (sym p.second ∙ q.second)
one_none base bytes (Some (OtherVersion version)) (Some OtherBase) p q =
    absurd (p.other (subst IsKnown (sym (text_second bytes q.text q.version q.rest q.has) ∙ p.second) q.has.known))
one_none base bytes (Some (OtherVersion version)) (Some (Damaged place)) p q = absurd q
one_none base bytes (Some (OtherVersion version)) (Some (Past place)) p q = absurd q
one_none base bytes (Some OtherBase) (Some NotJournal) p q = absurd (q.other (text_first bytes p.text p.version p.rest p.has))
one_none base bytes (Some OtherBase) (Some (OtherVersion version)) p q =
    absurd (q.other (subst IsKnown (sym (text_second bytes p.text p.version p.rest p.has) ∙ q.second) p.has.known))
one_none base bytes (Some OtherBase) (Some OtherBase) p q = refl
one_none base bytes (Some OtherBase) (Some (Damaged place)) p q = absurd q
one_none base bytes (Some OtherBase) (Some (Past place)) p q = absurd q
one_none base bytes (Some (Damaged place)) y p q = absurd p
one_none base bytes (Some (Past place)) y p q = absurd p

-- ---- batches

-- where it stops, no batch begins
stopped : (version place : ℕ) (rest : List ℕ) (ended : Option Fault) → StopsAt version place rest ended → BeginsBatch rest version → ⊥
stopped version place rest None s b = s.0 (begins_whole rest version b)
stopped version place rest (Some (Damaged at)) s b = s.2 b
stopped version place rest (Some (Past at)) s b = s.1.shut (begins_whole rest version b).opened
stopped version place rest (Some NotJournal) s b = s
stopped version place rest (Some (OtherVersion other)) s b = s
stopped version place rest (Some OtherBase) s b = s

one_stop : (version place : ℕ) (rest : List ℕ) (x y : Option Fault) → StopsAt version place rest x → StopsAt version place rest y → x ≡ y
one_stop version place rest None None s t = refl
one_stop version place rest None (Some (Damaged at)) s t = absurd (s.0 t.1)
one_stop version place rest None (Some (Past at)) s t = absurd (s.1 t.1)
one_stop version place rest None (Some NotJournal) s t = absurd t
one_stop version place rest None (Some (OtherVersion other)) s t = absurd t
one_stop version place rest None (Some OtherBase) s t = absurd t
one_stop version place rest (Some (Damaged at)) None s t = absurd (t.0 s.1)
one_stop version place rest (Some (Damaged at)) (Some (Damaged too)) s t = ap (λ p. Some (Damaged p)) (s.0 ∙ sym t.0)
one_stop version place rest (Some (Damaged at)) (Some (Past too)) s t = absurd (t.1.shut s.1.opened)
one_stop version place rest (Some (Damaged at)) (Some NotJournal) s t = absurd t
one_stop version place rest (Some (Damaged at)) (Some (OtherVersion other)) s t = absurd t
one_stop version place rest (Some (Damaged at)) (Some OtherBase) s t = absurd t
one_stop version place rest (Some (Past at)) None s t = absurd (t.1 s.1)
one_stop version place rest (Some (Past at)) (Some (Damaged too)) s t = absurd (s.1.shut t.1.opened)
one_stop version place rest (Some (Past at)) (Some (Past too)) s t = ap (λ p. Some (Past p)) (s.0 ∙ sym t.0)
one_stop version place rest (Some (Past at)) (Some NotJournal) s t = absurd t
one_stop version place rest (Some (Past at)) (Some (OtherVersion other)) s t = absurd t
one_stop version place rest (Some (Past at)) (Some OtherBase) s t = absurd t
one_stop version place rest (Some NotJournal) y s t = absurd s
one_stop version place rest (Some (OtherVersion other)) y s t = absurd s
one_stop version place rest (Some OtherBase) y s t = absurd s

-- a batch with something behind it
begun : (version : ℕ) (first : List Item) (bytes rest : List ℕ) → IsBatch version first → bytes ≡ batch first ++ rest → 0 < length rest →
    BeginsBatch bytes version
begun version first bytes [] fits is some = absurd (omega (arith, some))
begun version first bytes (next ∷ after) fits is some = record { all = first; next = next; after = after; fits = fits; spelled = is }

some_behind : (batches : Batches) (rest : List ℕ) (first : List Item) → ((first ∷ batches) ≡ []) ⊎ (0 < length rest) →
    0 < length (flat_map batch batches ++ rest)
some_behind batches rest first (inl none) = absurd cc
some_behind batches rest first (inr lt) = omega (arith, lt, length-append (flat_map batch batches) rest)

behind_tail : (batches : Batches) (rest : List ℕ) (first : List Item) → ((first ∷ batches) ≡ []) ⊎ (0 < length rest) →
    (batches ≡ []) ⊎ (0 < length rest)
behind_tail batches rest first (inl none) = absurd cc
behind_tail batches rest first (inr lt) = inr lt

-- they stop behind the same batches
one_list : (version p q : ℕ) (a b : Batches) (x y : List ℕ) (e f : Option Fault) → All (IsBatch version) a → All (IsBatch version) b →
    (a ≡ []) ⊎ (0 < length x) → (b ≡ []) ⊎ (0 < length y) → StopsAt version p x e → StopsAt version q y f →
    flat_map batch a ++ x ≡ flat_map batch b ++ y → (a ≡ b) × (x ≡ y)
one_list version p q [] [] x y e f fa fb ba bb sx sy same = (refl, same)
one_list version p q [] (g ∷ b) x y e f fa fb ba bb sx sy same =
    absurd (stopped version p x e sx (begun version g x (flat_map batch b ++ y) (All-head (IsBatch version) g b fb)
    (same ∙ append_assoc (batch g) (flat_map batch b) y) (some_behind b y g bb)))
one_list version p q (g ∷ a) [] x y e f fa fb ba bb sx sy same =
    absurd (stopped version q y f sy (begun version g y (flat_map batch a ++ x) (All-head (IsBatch version) g a fa)
    (sym same ∙ append_assoc (batch g) (flat_map batch a) x) (some_behind a x g ba)))
one_list version p q (g ∷ a) (h ∷ b) x y e f fa fb ba bb sx sy same =
    let one = one_batch version g h (flat_map batch a ++ x) (flat_map batch b ++ y) (All-head (IsBatch version) g a fa)
    (All-head (IsBatch version) h b fb)
    (sym (append_assoc (batch g) (flat_map batch a) x) ∙ same ∙ append_assoc (batch h) (flat_map batch b) y) in
    let rest = one_list version p q a b x y e f (All-tail (IsBatch version) g a fa) (All-tail (IsBatch version) h b fb)
    (behind_tail a x g ba) (behind_tail b y h bb) sx sy one.1 in
    (ap (λ (z : List Item). z ∷ a) one.0 ∙ ap (λ (l : Batches). h ∷ l) rest.0, rest.1)

one_run : (base bytes : List ℕ) (v w : ℕ) (a b : List Item) (p q : ℕ) (x y : List ℕ) (e f : Option Fault) →
    HasBatches base bytes v a p x → HasBatches base bytes w b q y → StopsAt v p x e → StopsAt w q y f → (a ≡ b) × (e ≡ f)
one_run base bytes v w a b p q x y e f h k s t =
    let texts = one_text bytes base v (flat_map batch h.batches ++ x) (text_of_batches base bytes v a p x h) base w
    (flat_map batch k.batches ++ y) (text_of_batches base bytes w b q y k) in
    let t2 = subst (λ n. StopsAt n q y f) texts.1 t in
    let lists = one_list v p q h.batches k.batches x y e f h.batches_fit (subst (λ n. All (IsBatch n) k.batches) texts.1 k.batches_fit)
    h.behind k.behind s t2 (sym texts.2) in
    let places : q ≡ p = k.place_is ∙ ap (λ n. length (front n base k.batches)) texts.1
    ∙ ap (λ (l : Batches). length (front v base l)) (sym lists.0) ∙ sym h.place_is in (
      h.items_are ∙ ap (λ (l : Batches). flat_map (λ batch. batch) l) lists.0 ∙ sym k.items_are,
      one_stop v p x e f s (subst (λ (l : List ℕ). StopsAt v p l f) (sym lists.1) (subst (λ n. StopsAt v n y f) places t2)),
    )

pub one_stream : (base bytes : List ℕ) (a b : List Item) (x y : Option Fault) → IsStream base bytes a x → IsStream base bytes b y →
    (a ≡ b) × (x ≡ y)
one_stream base bytes a b x y (inl p) (inl q) = (p.0 ∙ sym q.0, one_none base bytes x y p.1 q.1)
one_stream base bytes a b x y (inl p) (inr q) =
    absurd (reads_batches base bytes q.0 _ x (text_of_batches base bytes q.0 b q.1 q.2 q.3) p.1)
one_stream base bytes a b x y (inr p) (inl q) =
    absurd (reads_batches base bytes p.0 _ y (text_of_batches base bytes p.0 a p.1 p.2 p.3) q.1)
one_stream base bytes a b x y (inr p) (inr q) =
    one_run base bytes p.0 q.0 a b p.1 q.1 p.2 q.2 x y p.3 q.3 p.4 q.4

-- ---- journals

-- where no batch counts, it stops
ends_stop : (version place : ℕ) (rest : List ℕ) → IsEnd rest → (ended : Option Fault) × StopsAt version place rest ended
unfolding IsEnd
ends_stop version place [] ends = absurd ends
ends_stop version place (gate ∷ []) ends = (None, (λ w. omega (arith, w.whole), λ p. omega (arith, p.behind)))
ends_stop version place (gate ∷ b ∷ rest) ends = (Some (Past place), (refl, record { behind = omega arith; shut = ends }))

pub counted_are_whole : (base bytes : List ℕ) (version : ℕ) (items : List Item) → CountsItems bytes base version items →
    AreWhole base bytes items
counted_are_whole base bytes version items c =
    let place = length (front version base c.batches) in
    let stop = ends_stop version place c.rest c.ends in (
      stop.0,
      inr (
        version,
        place,
        c.rest,
        record {
          batches = c.batches;
          known = c.known;
          base_fits = c.base_fits;
          batches_fit = c.batches_fit;
          bytes_are = c.bytes_are;
          behind = inr (end_long c.rest c.ends);
          items_are = c.items_are;
          place_is = refl;
        },
        stop.1,
      ),
    )
