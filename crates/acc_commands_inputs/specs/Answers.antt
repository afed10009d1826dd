-- What the code's values say.
use Rattle.std.specs.Prelude.{List, []}
use Rattle.acc_base.specs.declared.machines.Event.{Event}
use Rattle.acc_journalled.specs.declared.answers.Answer.{Answer}
use Rattle.acc_commands_inputs.specs.Text.{Said}

abbrev pub said_of : Answer → List Event → Said
said_of a history = record { ending = a.ending; text = a.text.items; history = history }

-- an answer without a machine
abbrev pub said_alone : Answer → Said
said_alone a = said_of a []
