-- What a crash leaves of an engine's journal with its states, and the states that wait.
use Rattle.std.proofs.Common.{◌≡◌, ◌≤◌, ◌+◌, ◌^◌, inl, inr, ℕ, List, [], ◌∷◌, ◌++◌, length, length-append, take, refl}
use Rattle.std.proofs.Common.{sym, ap, subst, ◌∙◌, arith}
use Rattle.std.specs.Prelude.{All}
use Rattle.std.proofs.lemmas.List.{take_all, take_at, take-append-le}
use Rattle.std.proofs.lemmas.List.Elements.{All-nil, All-cons, All-append, All-weaker}
use Rattle.acc_base.specs.declared.designs.Design.{Design}
use Rattle.acc_base.specs.declared.machines.Event.{Event}
use Rattle.acc_base.specs.Machine.{World, start, unfinished}
use Rattle.acc_base.specs.Lawful.{LeadLawfully}
use Rattle.acc_ckpt.specs.Texts.{text_of}
use Rattle.acc_disk.specs.Moments.{AtAnyMoment}
use Rattle.acc_wal.specs.Fronts.{CountsFront}
use Rattle.acc_wal.specs.Items.{seal_bytes}
use Rattle.acc_wal.specs.Journals.{CountsAll}
use Rattle.acc_wal.specs.Settling.{PushesSeal}
use Rattle.acc_wal.specs.Wals.{Journal, CountsAllEither}
use Rattle.acc_wal.specs.declared.items.Seal.{Seal}
use Rattle.acc_wal.proofs.Moments.{weaker}
use Rattle.acc_wal.proofs.Once.{one_of_all}
use Rattle.acc_machine.specs.Kept.{IsKept}
use Rattle.acc_recover.specs.Seals.{IsSealOf, AreSealsOf, HasSealsOver}
use Rattle.acc_recover.proofs.Sealed.{StandsWithin, events_counted, counted_within, seal_goes_on, seals_go_on}
use Rattle.acc_engine.specs.Sealing.{SealedFront, SealedDurableOrAll, IsHeld, AreHeld}

-- ---- fronts

-- over a base text that is the same, as the design's printed text may be
pub has_seals : (d : Design) (base text : List ℕ) (events : List Event) (file : List ℕ) → base ≡ text → HasSealsOver base d events file
    → HasSealsOver text d events file
has_seals d base text events file is has = subst (λ (b : List ℕ). HasSealsOver b d events file) is has

-- the events alone
pub front_of_sealed : (d : Design) (base : List ℕ) (history : List Event) (least : ℕ) (image : List ℕ)
    → SealedFront d base history least image → CountsFront base history least image
front_of_sealed d base history least image front =
    record {
      count = front.count;
      at_least = front.at_least;
      within = front.within;
      counts = events_counted image base front.sealed.0 (take front.count history) front.sealed.1 front.sealed.2.counts;
    }

-- one of each history that goes on from it, and of each smaller least
pub sealed_goes_on : (d : Design) (base image : List ℕ) (history more : List Event) (least lower : ℕ) → lower ≤ least
    → SealedFront d base history least image → SealedFront d base (history ++ more) lower image
sealed_goes_on d base image history more least lower le front = record {
  count = front.count;
  at_least = omega (arith, le, front.at_least);
  within = omega (arith, front.within, length-append history more);
  sealed =
      subst (λ (es : List Event). HasSealsOver base d es image) (sym (take-append-le front.count history more front.within)) front.sealed;
}

-- the whole history
pub front_of_all : (d : Design) (base image : List ℕ) (history : List Event) (least : ℕ) → least ≤ length history
    → HasSealsOver base d history image → SealedFront d base history least image
front_of_all d base image history least within has = record {
  count = length history;
  at_least = within;
  within = omega arith;
  sealed = subst (λ (es : List Event). HasSealsOver base d es image) (sym (take_all (length history) history (omega arith))) has;
}

-- the durable part or the whole history
pub front_of_either : (d : Design) (base image : List ℕ) (history : List Event) (settled : ℕ) → settled ≤ length history
    → SealedDurableOrAll d base history settled image → SealedFront d base history settled image
front_of_either d base image history settled within (inl before) =
    record { count = settled; at_least = omega arith; within = within; sealed = before }
front_of_either d base image history settled within (inr after) = front_of_all d base image history settled within after

-- so at any moment of a call a crash leaves such a front
pub sealed_at_moments : {D : Type 0} (clock : D → ℕ) (left_since : D → ℕ → List ℕ → Type 0) (old new : D) (d : Design) (base : List ℕ)
    (history : List Event) (settled : ℕ) → settled ≤ length history
    → AtAnyMoment clock left_since old new (SealedDurableOrAll d base history settled)
    → AtAnyMoment clock left_since old new (SealedFront d base history settled)
sealed_at_moments clock left_since old new d base history settled within run =
    weaker clock left_since old new (SealedDurableOrAll d base history settled) (SealedFront d base history settled)
    (λ image left. front_of_either d base image history settled within left) run

-- ---- the durable states

-- what the journal counts of a file that is such a front
pub are_seals : (d : Design) (base file : List ℕ) (version : ℕ) (durable history : List Event) (seals : List Seal) (least : ℕ)
    → CountsAll file base version durable seals → SealedFront d base history least file → AreSealsOf d durable seals
are_seals d base file version durable history seals least counts front =
    let is = front.sealed.2 in
    let one = one_of_all file base base version front.sealed.0 durable (take front.count history) seals front.sealed.1 counts is.counts in
    subst (λ (l : List Seal). AreSealsOf d durable l) (sym one.3)
    (subst (λ (es : List Event). AreSealsOf d es front.sealed.1) (sym one.2) is.each)

-- with those that waited
pub all_sealed : (d : Design) (durable tail history : List Event) (seals waiting : List Seal) → durable ++ tail ≡ history
    → All (StandsWithin (length durable)) seals → AreSealsOf d durable seals → AreHeld d history waiting
    → AreSealsOf d history (seals ++ waiting)
all_sealed d durable tail history seals waiting same within are held =
    All-append (IsSealOf d history) seals waiting
    (subst (λ (es : List Event). AreSealsOf d es seals) same (seals_go_on d durable tail seals within are))
    (All-weaker (IsHeld d history) (IsSealOf d history) (λ seal h. h.is) waiting held.each)

-- ---- a settling of a journal whose file is such a front

module _ (d : Design) (history : List Event) (base file : List ℕ) (version : ℕ) (durable tail : List Event) (seals waiting : List Seal)
    (same : durable ++ tail ≡ history) (held : AreHeld d history waiting) (counts : CountsAll file base version durable seals)
    (front : SealedFront d base history (length durable) file) where
  within : All (StandsWithin (length durable)) seals
  within = counted_within file base version durable seals counts

  are : AreSealsOf d durable seals
  are = are_seals d base file version durable history seals (length durable) counts front

  all : AreSealsOf d history (seals ++ waiting)
  all = all_sealed d durable tail history seals waiting same within are held

  -- what a crash leaves of it
  pub sealed_or_all : (image : List ℕ) → CountsAllEither base version durable seals tail waiting image
      → SealedDurableOrAll d base history (length durable) image
  sealed_or_all image (inl before) =
      let first : take (length durable) history ≡ durable =
      ap (λ (h : List Event). take (length durable) h) (sym same) ∙ take_at durable tail (length durable) refl in
      inl (subst (λ (es : List Event). HasSealsOver base d es image) (sym first) (version, seals, record { counts = before; each = are }))
  sealed_or_all image (inr after) =
      inr (
        version,
        seals ++ waiting,
        record { counts = subst (λ (es : List Event). CountsAll image base version es (seals ++ waiting)) same after; each = all },
      )

  -- what stands on the disk then, where it is done
  pub settled_front : (base2 file2 : List ℕ) (version2 : ℕ) (durable2 : List Event) (seals2 : List Seal) → durable2 ≡ durable ++ tail
      → seals2 ≡ seals ++ waiting → CountsAll file2 base2 version2 durable2 seals2 → SealedFront d base2 history (length durable2) file2
  settled_front base2 file2 version2 durable2 seals2 grown more now =
      let whole : durable2 ≡ history = grown ∙ same in
      front_of_all d base2 file2 history (length durable2) (let e = ap length whole in omega (arith, e)) (
        version2,
        seals2,
        record {
          counts = subst (λ (es : List Event). CountsAll file2 base2 version2 es seals2) whole now;
          each = subst (λ (l : List Seal). AreSealsOf d history l) (sym more) all;
        },
      )

-- ---- the states that wait

pub none_held : (d : Design) (events : List Event) (waiting : List Seal) → waiting ≡ [] → AreHeld d events waiting
none_held d events waiting none =
    subst (λ (l : List Seal). AreHeld d events l) (sym none) (record { few = omega arith; each = All-nil (IsHeld d events) })

-- they stay such where the history goes on
pub held_go_on : (d : Design) (events more : List Event) (waiting : List Seal) → AreHeld d events waiting
    → AreHeld d (events ++ more) waiting
held_go_on d events more waiting held = record {
  few = held.few;
  each = All-weaker (IsHeld d events) (IsHeld d (events ++ more)) (λ seal h. record {
    within = omega (arith, h.within, length-append events more);
    is = seal_goes_on d events more seal h.within h.is;
    short = h.short;
  }) waiting held.each;
}

pub still_held : (d d2 : Design) (events events2 more : List Event) (waiting waiting2 : List Seal) → d2 ≡ d → events2 ≡ events ++ more
    → waiting2 ≡ waiting → AreHeld d events waiting → AreHeld d2 events2 waiting2
still_held d d2 events events2 more waiting waiting2 design grown same held =
    subst (λ (x : Design). AreHeld x events2 waiting2) (sym design)
    (subst (λ (es : List Event). AreHeld d es waiting2) (sym grown)
    (subst (λ (l : List Seal). AreHeld d (events ++ more) l) (sym same) (held_go_on d events more waiting held)))

-- they are spelled in few bytes
pub held_bytes : (d : Design) (events : List Event) (waiting : List Seal) → AreHeld d events waiting → seal_bytes waiting ≤ 2 ^ 22 + 5
held_bytes d events [] held = omega arith
held_bytes d events (seal ∷ []) held = let one = held.each 0 seal (omega arith) in let short = one.short in omega (arith, short)
held_bytes d events (seal ∷ other ∷ waiting) held = absurd (omega (arith, held.few))

-- the rows' text, put behind all events
pub pushed_held : {D : Type 0} (d : Design) (w : World) (old new : Journal D) (text : List ℕ) → IsKept d w
    → old.durable ++ old.tail ≡ w.events → unfinished w ≡ [] → text ≡ text_of w.rows → length text ≤ 2 ^ 22 → old.waiting ≡ []
    → PushesSeal text old new → AreHeld d w.events new.waiting
pushed_held d w old new text kept same idle is short none push =
    let place = length (old.durable ++ old.tail) in
    let long : place ≡ length w.events = ap length same in
    let whole : take place w.events ≡ w.events = take_all place w.events (omega (arith, long)) in
    let seal : Seal = record { place = place; text = text } in
    let only : new.waiting ≡ seal ∷ [] = push.waiting ∙ ap (λ (l : List Seal). l ++ seal ∷ []) none in
    subst (λ (l : List Seal). AreHeld d w.events l) (sym only) (record {
      few = omega arith;
      each = All-cons (IsHeld d w.events) seal [] (record {
        within = omega (arith, long);
        is = record {
          here = w;
          comes = subst (λ (es : List Event). LeadLawfully d start es w) (sym whole) kept.good.lawful;
          is = record { idle = idle; same = is };
        };
        short = short;
      }) (All-nil (IsHeld d w.events));
    })
