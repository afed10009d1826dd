use Rattle.std.proofs.Common.{subst}
use Rattle.acc_audit.specs.Audits.{IsFirstOf}
use Rattle.acc_audit.proofs.FirstFrames.{first_frame}
use Rattle.acc_audit.proofs.frames.frames_complaint.Goals as goal

pub returns-in-Some : goal.returns-in-Some
returns-in-Some g c =
    first_frame c.args.d.now c.args.s.now c.args.frames.now c.loop-frame.frame-index c.frame-item.result c.in-Some.clause
    c.in-Some.complaint c.loop-frame-test.true c.frame-item.is c.loop-frame.invariant
    (subst (IsFirstOf c.args.d.now c.args.s.now c.frame-item.result) c.in-Some.is c.in_ok-clause.ensures)
