use Rattle.acc_formed.proofs.Runs.{well_formed_runs}
use Rattle.acc_lift.proofs.acceptance.Accepted.new.Goals as goal

pub invariant_of-result : goal.invariant_of-result
invariant_of-result c =
    record { sound = c.requires.sound; formed = c.requires.formed; runnable = well_formed_runs c.args.design c.requires.formed }
