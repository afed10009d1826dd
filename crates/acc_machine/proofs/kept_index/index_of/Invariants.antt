use Rattle.std.proofs.Common.{take}
use Rattle.acc_lock_index.specs.Indexed.{StandsFor}
use Rattle.acc_machine.proofs.kept_index.index_of.Given as goal

-- it stands for the frames so far
abbrev pub invariant-loop-i : goal.invariant-loop-i
invariant-loop-i l = StandsFor l.d (take l.i l.frames) l.index.standings
