use Rattle.acc_elim_points.proofs.Refuting.{refutes}
use Rattle.acc_elim_points.proofs.laws.a_false_constant_refutes.Goals as goal

pub returns : goal.returns
returns c = refutes
