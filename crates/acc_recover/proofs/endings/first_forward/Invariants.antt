use Rattle.std.proofs.Common.{◌≡◌, drop}
use Rattle.acc_recover.specs.Endings.{first_forward}
use Rattle.acc_recover.proofs.endings.first_forward.Given as goal

abbrev pub invariant-loop-frame : goal.invariant-loop-frame
invariant-loop-frame l = first_forward (drop l.frame-index l.frames) ≡ first_forward l.frames
