use Rattle.acc_form.specs.Statements.{type_marks}
use Rattle.acc_form.proofs.Numbered.{numbered_next}
use Rattle.acc_form.proofs.designs.meet_types.Goals as goal

pub loop-i-preserved : goal.loop-i-preserved
loop-i-preserved c =
    numbered_next (type_marks c.args.tables.now c.args.types.now) c.args.types.now c.loop-i.i _ _ _ _ c.loop-i.invariant c.meet_type.ensures
    c.loop-i-test.true c.index-types-i.is
