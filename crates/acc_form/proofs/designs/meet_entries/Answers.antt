use Rattle.acc_form.specs.Statements.{entry_marks}
use Rattle.acc_form.proofs.Numbered.{numbered_next}
use Rattle.acc_form.proofs.designs.meet_entries.Goals as goal

pub loop-i-preserved : goal.loop-i-preserved
loop-i-preserved c =
    numbered_next (entry_marks c.args.types.now c.args.entries.now) c.args.entries.now c.loop-i.i _ _ _ _ c.loop-i.invariant
    c.meet_entry.ensures c.loop-i-test.true c.index-entries-i.is
