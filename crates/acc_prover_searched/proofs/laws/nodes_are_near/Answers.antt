use Rattle.acc_prover_searched.proofs.NearNodes.{nodes_near_at_end}
use Rattle.acc_prover_searched.proofs.laws.nodes_are_near.Goals as goal

pub returns : goal.returns
returns c = nodes_near_at_end
