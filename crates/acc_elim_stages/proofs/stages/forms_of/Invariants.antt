use Rattle.std.proofs.Common.{◌≡◌, map, take}
use Rattle.acc_elim_stages.specs.Stages.{row_form}
use Rattle.acc_elim_stages.proofs.stages.forms_of.Given as goal

abbrev pub invariant-loop-row : goal.invariant-loop-row
invariant-loop-row l = l.forms ≡ map row_form (take l.row-index l.rows)
