use Rattle.std.proofs.Common.{◌≡◌, ℕ, ◌+◌, List, [], ◌∷◌, ◌++◌, length, sym, ◌∙◌, ap, subst, arith, length-append}
use Rattle.std.specs.Prelude.{◌<◌, ◌^◌, All}
use Rattle.std.specs.List.{flat_map}
use Rattle.std.proofs.lemmas.List.Concat.{flat_map-append}
use Rattle.std.proofs.lemmas.List.Elements.{All-push}
use Rattle.std.proofs.lemmas.List.{append-nil}
use Rattle.acc_base.specs.declared.machines.Event.{Event}
use Rattle.acc_wal.specs.Spellings.{event_bytes, body, Fits}
use Rattle.acc_cases_wal.proofs.listing.ListedEvents.push.Goals as goal

-- one event more
longer : (events : List Event) (event : Event) → length (body (events ++ event ∷ [])) ≡ length (body events) + length (event_bytes event)
unfolding body
longer events event =
    ap length (flat_map-append event_bytes events (event ∷ []) ∙ ap (λ (bs : List ℕ). body events ++ bs) (append-nil (event_bytes event)))
    ∙ length-append (body events) (event_bytes event)

pub invariant_of-self-2 : goal.invariant_of-self-2
invariant_of-self-2 c =
    let events = c.self.inside.events.items in
    let event = c.args.event in
    let bytes = c.saturating_add-bytes.result in
    subst (λ (es : List Event). All Fits es × (bytes ≡ length (body es)) × (bytes < 2 ^ 20)) (sym c.in_ok-push.ensures.items) (
      All-push Fits events event c.self.invariant.0 c.requires,
      omega (
        arith,
        longer events event,
        c.self.invariant.1,
        c.event_len.ensures,
        c.saturating_add-bytes.ensures,
        c.if-bytes-ge-MOST.false,
      ),
      omega (arith, c.if-bytes-ge-MOST.false),
    )
