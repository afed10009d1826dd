use Rattle.acc_prover_candidates.proofs.Tried.{each_named}
use Rattle.acc_prover_candidates.proofs.kinds.all_kinds.Goals as goal

pub returns-clause-each : goal.returns-clause-each
returns-clause-each c = each_named
