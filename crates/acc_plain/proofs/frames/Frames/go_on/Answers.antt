use Rattle.std.proofs.Common.{◌∙◌, ap, set}
use Rattle.acc_base.specs.declared.machines.Frame.{Frame}
use Rattle.acc_plain.specs.Change.{standing_at}
use Rattle.acc_plain.proofs.Slots.{read_at, set_at}
use Rattle.acc_plain.proofs.frames.Frames.go_on.Goals as goal

pub returns : goal.returns
returns c f got =
    let slots = c.self.inside.slots.items in
    let gone = c.self.inside.gone in
    let read = read_at slots gone c.args.self.now c.self.view_is c.args.at f c.index_mut-frame.result.now got
    c.index_mut-frame.ensures.value in
    set_at slots gone c.args.self.now c.self.view_is c.args.at (standing_at c.args.standing c.index_mut-frame.result.now) ∙ ap
    (λ (g : Frame). set c.args.self.now c.args.at (standing_at c.args.standing g)) read
