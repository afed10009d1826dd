use Rattle.acc_prover_searched.proofs.Ends.{ended_proof}
use Rattle.acc_prover_searched.proofs.laws.nodes_are_a_proof.Goals as goal

pub returns : goal.returns
returns c = ended_proof
