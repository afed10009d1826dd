-- What a step did, with writes, as an effect on the rows.
use Rattle.std.specs.Prelude.{List}
use Rattle.acc_base.specs.declared.tables.Row.{Row}
use Rattle.acc_base.specs.Effects.{Effect, leads}
use Rattle.acc_store.specs.Rows.{written}
use Rattle.acc_step.specs.declared.effects.StepEffect.{StepEffect}

-- the effect that leaves the rows as the writes make them
abbrev pub seen : List Row → StepEffect → Effect
seen db e = leads e.target (written e.writes db) (record { locals = e.locals; at = e.pos }) e.path
