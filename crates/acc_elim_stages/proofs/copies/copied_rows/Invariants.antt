use Rattle.std.proofs.Common.{◌≡◌, take}
use Rattle.acc_elim_stages.proofs.copies.copied_rows.Given as goal

abbrev pub invariant-loop-row : goal.invariant-loop-row
invariant-loop-row l =
    l.again.items ≡ take l.row-index l.rows
