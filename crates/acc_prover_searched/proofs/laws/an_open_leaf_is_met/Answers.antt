use Rattle.acc_prover_searched.proofs.Ends.{leaf_open}
use Rattle.acc_prover_searched.proofs.laws.an_open_leaf_is_met.Goals as goal

pub returns : goal.returns
returns c = leaf_open
