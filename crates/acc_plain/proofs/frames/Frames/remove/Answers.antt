use Rattle.std.proofs.Common.{◌≤◌, ◌+◌, ◌∙◌, ap, arith, drop, length}
use Rattle.std.proofs.lemmas.List.{length-drop}
use Rattle.acc_plain.proofs.Slots.{removed_at, first_removed}
use Rattle.acc_plain.proofs.frames.Frames.remove.Goals as goal

pub returns-then-at-gt0 : goal.returns-then-at-gt0
returns-then-at-gt0 c =
    let slots = c.self.inside.slots.items in
    let gone = c.self.inside.gone in
    let within : gone + c.args.at ≤ length slots = omega (arith, c.requires.within, ap length c.self.view_is, length-drop gone slots) in
    ap (drop gone) c.remove.ensures.items ∙ removed_at slots gone c.args.self.now c.self.view_is c.args.at within

pub returns-then-self-len : goal.returns-then-self-len
returns-then-self-len c =
    c.compact.ensures ∙ first_removed c.self.inside.slots.items c.self.inside.gone c.args.self.now c.self.view_is c.args.at
    (omega (arith, c.if-at-gt0.false))

pub returns-else-self-len : goal.returns-else-self-len
returns-else-self-len c =
    first_removed c.self.inside.slots.items c.self.inside.gone c.args.self.now c.self.view_is c.args.at (omega (arith, c.if-at-gt0.false))
