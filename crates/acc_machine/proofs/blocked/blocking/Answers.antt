use Rattle.std.proofs.Common.{sym, subst}
use Rattle.acc_base.specs.declared.designs.Side.TheVariants.{Next}
use Rattle.acc_base.specs.Entries.{Forbids}
use Rattle.acc_base.specs.Locks.{point_at}
use Rattle.acc_table.specs.Entries.{TellsLowest}
use Rattle.acc_machine.specs.Blocked.{ClashesAt, Blocks}
use Rattle.acc_machine.proofs.Lowers.{lower_tells}
use Rattle.acc_machine.proofs.blocked.blocking.Goals as goal

pub returns-in-Goes : goal.returns-in-Goes
returns-in-Goes c =
    let d = c.args.d.now in
    let f = c.args.f.now in
    let locals = c.args.locals.now in
    let h = c.args.h.now in
    subst (λ o. TellsLowest (Blocks d f locals h o) c.lower.result) (sym c.in-Goes.is)
    (subst (TellsLowest (Blocks d f locals h (Rattle.acc_plain.specs.Outlook.TheVariants.Goes c.in-Goes.to)))
    (sym c.lower.ensures) (lower_tells (Forbids d (point_at h.ty h.point) h.locals (point_at f.ty f.point) Next locals)
    (λ n. ClashesAt d f locals h n c.in-Goes.to) c.forbids-in-Goes.result c.clash.result
    (subst (λ at. TellsLowest (Forbids d (point_at h.ty h.point) h.locals at Next locals) c.forbids-in-Goes.result) c.at-here.ensures
    c.forbids-in-Goes.ensures) c.clash.ensures))
