use Rattle.std.proofs.Common.{refl}
use Rattle.acc_store.proofs.Laid.{on_err}
use Rattle.acc_store.proofs.Landed.{refused_none}
use Rattle.acc_store.proofs.runs.come_in.Goals as goal

pub returns-in_err-slot-clause-err : goal.returns-in_err-slot-clause-err
returns-in_err-slot-clause-err c =
    let es = c.args.run.now.entries in
    on_err c.from_residual.result (refused_none c.args.place c.args.cells.now es es c.requires.absent refl)

pub returns-in_err-insert-clause-err : goal.returns-in_err-insert-clause-err
returns-in_err-insert-clause-err c =
    on_err c.from_residual-in_err-insert.result
    (refused_none c.args.place c.args.cells.now c.args.run.now.entries c.insert.new.self.entries c.requires.absent
    c.in_err-insert.ensures.err)
