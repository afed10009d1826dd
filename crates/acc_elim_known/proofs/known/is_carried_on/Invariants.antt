use Rattle.std.proofs.Common.{take}
use Rattle.acc_elim_known.specs.Ends.{IsCarriedOn}
use Rattle.acc_elim_known.proofs.known.is_carried_on.Given as goal

abbrev pub invariant-loop-row : goal.invariant-loop-row
invariant-loop-row l = IsCarriedOn l.fn.known l.unknowns (take l.row-index l.rows) l.known
