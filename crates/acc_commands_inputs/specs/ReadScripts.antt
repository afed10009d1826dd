-- What comes of reading a script, and an order.
use Rattle.std.specs.Prelude.{ℕ, ◌*◌, ◌≤◌, List, All, length}
use Rattle.acc_base.specs.declared.designs.Design.{Design}
use Rattle.acc_base.specs.declared.machines.Call.{Call}
use Rattle.acc_player.specs.Playing.{AllFit}
use Rattle.acc_script.specs.BeginSizes.{begins_size}
use Rattle.acc_script.specs.CallLines.{IsScript}
use Rattle.acc_script.specs.OrderLines.{IsPlace, IsOrder}
use Rattle.acc_commands_inputs.specs.declared.scripts.ReadScript.{ReadScript}
use Rattle.acc_commands_inputs.specs.declared.scripts.ReadScript.TheVariants as script
use Rattle.acc_commands_inputs.specs.declared.scripts.ReadOrder.{ReadOrder}
use Rattle.acc_commands_inputs.specs.declared.scripts.ReadOrder.TheVariants as order
use Rattle.acc_commands_inputs.specs.Answers.{said_alone}
use Rattle.acc_commands_inputs.specs.Scripts.{RefusesScript, RefusesOrder}

-- the text is a script of these calls, each of which fits its type, and their begins are short in a journal; or it is refused
abbrev pub ReadsScript : Design → List ℕ → ReadScript → Type 0
ReadsScript d text (script.Read calls) = IsScript d text calls × AllFit d calls × (begins_size calls ≤ 10 * length text)
ReadsScript d text (script.Refused a) = RefusesScript d text (said_alone a)

-- the text is an order of these places of the calls; or it is refused
abbrev pub ReadsOrder : List Call → List ℕ → ReadOrder → Type 0
ReadsOrder calls text (order.Read places) = IsOrder (length calls) text places × All (IsPlace (length calls)) places
ReadsOrder calls text (order.Refused a) = RefusesOrder calls text (said_alone a)
