use Rattle.std.proofs.Common.{◌≡◌, length}
use Rattle.acc_base.specs.Tables.{parts_at}
use Rattle.tpcc_tables.proofs.amounts.greatest_part.Given as goal

-- what is left has the same parts
abbrev pub invariant-loop-row : goal.invariant-loop-row
invariant-loop-row l = parts_at l.at l.fn.rows ≡ parts_at l.at l.rest

abbrev pub decreases-loop-row : goal.decreases-loop-row
decreases-loop-row l = length l.rest
