use Rattle.std.proofs.Common.{◌≡◌, drop}
use Rattle.acc_base.specs.Tables.{parts_at}
use Rattle.tpcc_tables.proofs.amounts.least_part.Given as goal

-- what is left has the same parts
abbrev pub invariant-loop-row : goal.invariant-loop-row
invariant-loop-row l = parts_at l.at l.rows ≡ parts_at l.at (drop l.row-index l.rows)
