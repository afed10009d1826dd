use Rattle.acc_form.specs.Statements.{read_marks}
use Rattle.acc_form.proofs.Numbered.{numbered_next}
use Rattle.acc_form.proofs.steps.meet_reads.Goals as goal

pub loop-i-preserved : goal.loop-i-preserved
loop-i-preserved c =
    numbered_next (read_marks c.args.around.now.tables.now c.args.around.now.ty.now c.args.around.now.side) c.args.reads.now c.loop-i.i _ _
    _ _ c.loop-i.invariant c.meet_read.ensures c.loop-i-test.true c.index-reads-i.is
