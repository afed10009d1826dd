-- What is written so far, and then the rows that are left, is all of it.
use Rattle.acc_page.specs.Written.{Owes}
use Rattle.std.proofs.Common.{drop}
use Rattle.std.specs.List.{flat_map}
use Rattle.acc_dump.specs.Dumps.{row_line}
use Rattle.acc_dump.proofs.dumps.push_rows.Given as goal

abbrev pub invariant-loop-row : goal.invariant-loop-row
invariant-loop-row l = Owes l.fn.out l.out (flat_map (row_line l.d) (drop l.row-index l.rows)) (flat_map (row_line l.d) l.rows)
