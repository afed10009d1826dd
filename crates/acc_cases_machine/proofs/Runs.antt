-- A design that keeps the form rules can be run.
use Rattle.acc_base.specs.declared.designs.Design.{Design}
use Rattle.acc_base.specs.Runnable.{IsRunnable}
use Rattle.acc_formed.specs.WellFormed.{IsWellFormed}
use Rattle.acc_formed.proofs.Runs.{well_formed_runs}

pub formed_runs : (d : Design) → IsWellFormed d → IsRunnable d
formed_runs = well_formed_runs
