use Rattle.std.proofs.Common.{take, None}
use Rattle.std.specs.List.{AllByRecursion}
use Rattle.acc_audit.specs.Audits.{IsFirstOf}
use Rattle.acc_audit.proofs.frames.frames_complaint.Given as goal

abbrev pub invariant-loop-frame : goal.invariant-loop-frame
invariant-loop-frame g l = AllByRecursion (λ f. IsFirstOf l.d l.s f None) (take l.frame-index l.frames)
