use Rattle.acc_preconditions.proofs.PathRows.{leaves_rows_after}
use Rattle.acc_preconditions.proofs.laws.a_path_leaves_the_rows_after_its_actions.Goals as goal

pub returns : goal.returns
returns c = leaves_rows_after
