use Rattle.std.proofs.Common.{◌≡◌, ◌<◌, ◌+◌, ◌^◌, List, ℕ, [], ◌∷◌, ◌++◌, length, get_or, take, refl, sym, ◌∙◌, ap, subst, arith, rules}
use Rattle.std.proofs.lemmas.List.{take_more}
use Rattle.acc_base.specs.declared.machines.Event.{Event}
use Rattle.acc_wal.specs.Spellings.{body, event_bytes, Fits}
use Rattle.acc_wal.specs.Wals.{IsRecord}
use Rattle.acc_wal.proofs.Keeping.{record_empty, record_pushed}
use Rattle.acc_wal.proofs.Begun.{part_of_body}
use Rattle.acc_wal.proofs.filled.recorded.Goals as goal

pub loop-event-init : goal.loop-event-init
loop-event-init c = record {
  record_is = record_empty c.in_ok-staged.staged.items 0 2 c.new-made.result.items [] c.in_ok-staged.ensures.0 c.new-made.ensures.items refl;
  made_are = c.new-made.ensures.items;
  room = c.in_ok-staged.ensures.1;
}

pub put_again-requires-clause-short : goal.put_again-requires-clause-short
put_again-requires-clause-short c =
    let i = c.loop-event.event-index in
    let e = c.event-item.result in
    let is : e ≡ get_or c.args.events.now i e = search rules in
    let part = part_of_body c.args.events.now i e c.loop-event-test.true in
    omega (arith, part, c.requires.short, ap (λ (x : Event). length (event_bytes x)) is)

pub loop-event-preserved : goal.loop-event-preserved
loop-event-preserved c =
    let i = c.loop-event.event-index in
    let events = c.args.events.now in
    let e = c.event-item.result in
    let is : e ≡ get_or events i e = search rules in
    let fits : Fits e = subst Fits (sym is) (c.requires.each i e c.loop-event-test.true) in
    let part = part_of_body events i e c.loop-event-test.true in
    let short : length (body c.loop-event.made.items) + 0 + length (event_bytes e) < 2 ^ 32 = omega (
      arith,
      part,
      c.requires.short,
      ap (λ (x : Event). length (event_bytes x)) is,
      ap (λ (l : List Event). length (body l)) c.loop-event.invariant.made_are,
    ) in record {
      record_is = subst (λ (s : List ℕ). IsRecord s 0 2 c.put_again.new.events.items []) (sym c.in_ok-put_again.ensures.staged.0)
          (subst (λ (es : List Event). IsRecord (c.loop-event.staged.items ++ event_bytes e) 0 2 es []) (sym c.in_ok-put_again.ensures.events)
          (record_pushed c.loop-event.staged.items 2 c.loop-event.made.items [] 0 e (omega arith) c.loop-event.invariant.record_is fits short));
      made_are = c.in_ok-put_again.ensures.events ∙ ap (λ (l : List Event). l ++ e ∷ []) c.loop-event.invariant.made_are
          ∙ ap (λ (x : Event). take i events ++ x ∷ []) is ∙ sym (take_more events i e c.loop-event-test.true);
      room = c.in_ok-put_again.ensures.staged.1;
    }
