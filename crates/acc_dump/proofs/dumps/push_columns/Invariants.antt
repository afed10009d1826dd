-- What is written so far, and then what is left, is all of it.
use Rattle.acc_page.specs.Written.{Owes}
use Rattle.std.proofs.Common.{drop}
use Rattle.std.specs.List.{flat_map}
use Rattle.acc_base.specs.Lines.{spaced}
use Rattle.acc_dump.proofs.dumps.push_columns.Given as goal

abbrev pub invariant-loop-column : goal.invariant-loop-column
invariant-loop-column l = Owes l.fn.out l.out (flat_map spaced (drop l.column-index l.columns)) (flat_map spaced l.columns)
