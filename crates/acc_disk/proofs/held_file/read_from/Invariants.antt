use Rattle.std.proofs.Common.{length, ◌-◌, ◌≤◌}
use Rattle.acc_disk.proofs.held_file.read_from.Given as goal

abbrev pub invariant-loop-done : goal.invariant-loop-done
invariant-loop-done g l = l.done ≤ length l.buf

abbrev pub decreases-loop-done : goal.decreases-loop-done
decreases-loop-done g l = length l.initial.buf - l.done
