use Rattle.std.proofs.Common.{◌≡◌, ◌<◌, ℕ, Some}
use Rattle.std.specs.Prelude.{◌≢◌, slice_get}
use Rattle.acc_base.specs.declared.machines.Frame.{Frame}
use Rattle.acc_machine.proofs.kept_index.frame_of.Given as goal

-- none of the frames so far has the number
abbrev pub invariant-loop-i : goal.invariant-loop-i
invariant-loop-i l = (j : ℕ) (f : Frame) → j < l.i → slice_get l.frames j ≡ Some f → f.t ≢ l.t
