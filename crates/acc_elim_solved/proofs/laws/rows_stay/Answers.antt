use Rattle.acc_elim_solved.proofs.RowsStay.{rows_stay}
use Rattle.acc_elim_solved.proofs.laws.rows_stay.Goals as goal

pub returns : goal.returns
returns c = rows_stay
