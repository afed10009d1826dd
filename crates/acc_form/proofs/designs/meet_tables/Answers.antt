use Rattle.acc_form.specs.Statements.{table_marks}
use Rattle.acc_form.proofs.Numbered.{numbered_next}
use Rattle.acc_form.proofs.designs.meet_tables.Goals as goal

pub loop-i-preserved : goal.loop-i-preserved
loop-i-preserved c =
    numbered_next (table_marks c.args.tables.now) c.args.tables.now c.loop-i.i _ _ _ _ c.loop-i.invariant c.meet_table.ensures
    c.loop-i-test.true c.index-tables-i.is
