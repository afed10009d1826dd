-- What is written so far, and then the tables that are left, is all of it.
use Rattle.acc_page.specs.Written.{Owes}
use Rattle.std.proofs.Common.{drop}
use Rattle.std.specs.List.{flat_map}
use Rattle.acc_print.specs.Designs.{table_line}
use Rattle.acc_print.proofs.designs.push_tables.Given as goal

abbrev pub invariant-loop-table : goal.invariant-loop-table
invariant-loop-table l = Owes l.fn.out l.out (flat_map table_line (drop l.table-index l.tables)) (flat_map table_line l.tables)
