-- The values of a transaction's variables.
use Rattle.std.specs.Prelude.{List, ℤ}
use Rattle.acc_base.specs.Linear.{variables}
use Rattle.acc_step.specs.declared.variables.Variables.{Variables}

-- the locals, and then the number
abbrev pub values_of : Variables → List ℤ
values_of v = variables v.number v.locals
