-- What is written so far, and then what is left, is all of it.
use Rattle.acc_page.specs.Written.{Owes}
use Rattle.std.proofs.Common.{drop}
use Rattle.std.specs.List.{flat_map}
use Rattle.acc_base.specs.Lines.{spaced}
use Rattle.acc_dump.proofs.dumps.push_parts.Given as goal

abbrev pub invariant-loop-part : goal.invariant-loop-part
invariant-loop-part l = Owes l.fn.out l.out (flat_map spaced (drop l.part-index l.parts)) (flat_map spaced l.parts)
