use Rattle.std.proofs.Common.{◌≡◌, ◌<◌, ◌≤◌, ◌+◌, List, ◌∷◌, length, get_or, drop, sym, ap, ◌∙◌, arith}
use Rattle.std.proofs.lemmas.List.{at_drop_more}
use Rattle.acc_disk.specs.declared.history.Recorded.{Recorded}
use Rattle.acc_disk.proofs.Replays.{after_by, after_by-next}
use Rattle.acc_disk.proofs.history.History.replay.Goals as goal

pub loop-recorded-preserved : goal.loop-recorded-preserved
loop-recorded-preserved c =
    let past = c.args.self.now.past.items in
    let place = c.loop-recorded.recorded-index in
    let item = c.recorded-item.result in
    let within : place < length past = omega (arith, ap length c.deref-recorded-items.ensures.value) in
    let item_is : item ≡ get_or past place item =
    c.recorded-item.is ∙ ap (λ (changes : List Recorded). get_or changes place item) c.deref-recorded-items.ensures.value in
    let counts : item.number ≤ c.args.calls = omega arith in
    ap (λ standing. after_by c.args.calls standing (drop (place + 1) past)) c.in_ok-apply.ensures
    ∙ sym (after_by-next c.args.calls c.loop-recorded.replay item (drop (place + 1) past) counts)
    ∙ ap (λ first. after_by c.args.calls c.loop-recorded.replay (first ∷ drop (place + 1) past)) item_is
    ∙ sym (at_drop_more (after_by c.args.calls c.loop-recorded.replay) past place item within)
    ∙ c.loop-recorded.invariant
