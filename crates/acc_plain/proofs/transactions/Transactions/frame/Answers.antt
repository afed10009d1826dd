use Rattle.std.proofs.Common.{◌≡◌, ◌∙◌, List, ap, get_or}
use Rattle.acc_base.specs.declared.machines.Frame.{Frame}
use Rattle.acc_plain.proofs.Keeping.{opened, frames_rise, is_held, frame_read}
use Rattle.acc_plain.proofs.transactions.Transactions.frame.Goals as goal

pub place-requires-clause-rising : goal.place-requires-clause-rising
place-requires-clause-rising c =
    let ps = c.self.inside.progresses.items in
    let fs = c.self.inside.frames in
    frames_rise ps fs c.args.t c.self.invariant (opened ps fs c.args.t c.self.invariant (rw (← c.self.view_is) at c.requires))

pub place-requires-clause-held : goal.place-requires-clause-held
place-requires-clause-held c =
    let ps = c.self.inside.progresses.items in
    let fs = c.self.inside.frames in
    is_held ps fs c.args.t c.self.invariant (opened ps fs c.args.t c.self.invariant (rw (← c.self.view_is) at c.requires))

pub returns : goal.returns
returns c =
    let ps = c.self.inside.progresses.items in
    let fs = c.self.inside.frames in
    let kept = c.self.invariant in
    let o = opened ps fs c.args.t kept (rw (← c.self.view_is) at c.requires) in
    let f = c.index-as_slice-place.result in
    let read : f ≡ get_or fs c.place.result f = c.index-as_slice-place.is ∙ ap (λ (gs : List Frame). get_or gs c.place.result f)
    c.as_slice.ensures in
    rw (← c.self.view_is) (frame_read ps fs c.args.t kept o c.place.result f c.place.ensures read)
