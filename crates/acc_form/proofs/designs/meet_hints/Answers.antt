use Rattle.acc_form.specs.Statements.{hint_marks}
use Rattle.acc_form.proofs.Numbered.{numbered_next}
use Rattle.acc_form.proofs.designs.meet_hints.Goals as goal

pub loop-i-preserved : goal.loop-i-preserved
loop-i-preserved c =
    numbered_next hint_marks c.args.hints.now c.loop-i.i _ _ _ _ c.loop-i.invariant c.meet_hint.ensures c.loop-i-test.true
    c.index-hints-i.is
