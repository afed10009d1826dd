-- What the program says.
use Rattle.std.specs.Prelude.{ℕ, List}
use Rattle.acc_base.specs.declared.machines.Event.{Event}
use Rattle.acc_cli.specs.declared.status.Status.{Status}

-- how it ends, what is printed, the events of its machine, and how many of the first of them the journal holds as durable
pub record Reply : Type 0 where
  pub status : Status
  pub text : List ℕ
  pub history : List Event
  pub settled : ℕ
