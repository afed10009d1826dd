use Rattle.std.proofs.Common.{length}
use Rattle.acc_form.specs.Statements.{path_marks}
use Rattle.acc_form.proofs.Numbered.{numbered_next}
use Rattle.acc_form.proofs.steps.meet_paths.Goals as goal

pub loop-i-preserved : goal.loop-i-preserved
loop-i-preserved c =
    numbered_next (path_marks c.args.around.now.tables.now c.args.around.now.ty.now c.args.around.now.side c.args.around.now.is_bare
    (length c.args.paths.now)) c.args.paths.now c.loop-i.i _ _ _ _ c.loop-i.invariant c.meet_path.ensures c.loop-i-test.true
    c.index-paths-i.is
