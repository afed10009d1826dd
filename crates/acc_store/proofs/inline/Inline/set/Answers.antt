use Rattle.std.proofs.Common.{◌∙◌, ap, set}
use Rattle.acc_store.proofs.Keep.{set-take}
use Rattle.acc_store.proofs.inline.Inline.set.Goals as goal

pub returns-then-place-self : goal.returns-then-place-self
returns-then-place-self g c =
    set-take c.self.inside.len c.self.inside.items c.args.place c.args.item c.if-place-self.true ∙ ap
    (λ xs. set xs c.args.place c.args.item) c.self.view_is
