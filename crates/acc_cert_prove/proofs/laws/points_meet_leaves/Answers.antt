use Rattle.std.specs.Prelude.{Ok}
use Rattle.acc_prover.specs.declared.found.Found.TheVariants.{Unproved}
use Rattle.acc_prover.proofs.Searched.{leaf_told}
use Rattle.acc_oblig_hints.specs.Hints.{hints_of}
use Rattle.acc_cert_prove.proofs.laws.points_meet_leaves.Goals as goal

pub returns : goal.returns
returns c = λ d q leaf point is. leaf_told d q (hints_of d q) (Ok (Unproved leaf point)) is
