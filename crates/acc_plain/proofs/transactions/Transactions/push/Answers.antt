use Rattle.std.proofs.Common.{◌∙◌, ◌++◌, ◌∷◌, [], List, ap}
use Rattle.acc_base.specs.declared.machines.Transaction.{Transaction}
use Rattle.acc_base.specs.declared.machines.Transaction.TheVariants.{Forward}
use Rattle.acc_plain.specs.Kept.{joined}
use Rattle.acc_plain.proofs.Keeping.{begins_kept}
use Rattle.acc_plain.proofs.transactions.Transactions.push.Goals as goal

pub invariant_of-self-in_default : goal.invariant_of-self-in_default
invariant_of-self-in_default c =
    let left = begins_kept c.self.inside.progresses.items c.self.inside.frames c.args.frame c.self.invariant
    (rw (← c.self.view_is) at c.requires.number) in
    rw (c.in_default.ensures.ok, c.in_ok-push.ensures.ok) left.kept

pub returns-clause-ok : goal.returns-clause-ok
returns-clause-ok c =
    let left = begins_kept c.self.inside.progresses.items c.self.inside.frames c.args.frame c.self.invariant
    (rw (← c.self.view_is) at c.requires.number) in
    (λ i. joined (c.in_default.ensures.ok i) (c.in_ok-push.ensures.ok i)) ∙ left.are ∙ ap
    (λ (ts : List Transaction). ts ++ Forward c.args.frame ∷ []) c.self.view_is
