-- What a read assigns, where its numbers are in range.
use Rattle.std.specs.Prelude.{ℕ, List, Option, ℤ}
use Rattle.acc_base.specs.declared.tables.Row.{Row}
use Rattle.acc_base.specs.declared.steps.Read.{Read}
use Rattle.acc_base.specs.Linear.{lin_values}
use Rattle.acc_base.specs.Reads.{read_key, read_value}
use Rattle.acc_step.specs.InRange.{value_read}

-- from these rows, this tape and place on it, and these values of the variables
abbrev pub read_of : List Row → List ℤ → ℕ → List ℤ → Read → Option ℤ
read_of db tape at env r = value_read (lin_values env (read_key r)) (read_value db tape at env r)
