use Rattle.std.proofs.Common.{take}
use Rattle.tpcc_tables.specs.Lines.{CountsLines}
use Rattle.tpcc_tables.proofs.lines.count_lines.Given as goal

abbrev pub invariant-loop-row : goal.invariant-loop-row
invariant-loop-row l = CountsLines l.line (take l.row-index l.rows) l.counts
