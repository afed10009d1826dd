-- What is told of a mention, in how much detail.
use Rattle.std.specs.Prelude.{ℕ, List, [], ◌∷◌}
use Rattle.acc_base.specs.declared.designs.Design.{Design}
use Rattle.acc_base.specs.declared.machines.Cause.{Cause}
use Rattle.acc_base.specs.declared.machines.Cause.TheVariants as cause
use Rattle.acc_base.specs.declared.machines.Turn.{Turn}
use Rattle.acc_base.specs.declared.machines.Turn.TheVariants as turn
use Rattle.acc_base.specs.Lines.{told_line}
use Rattle.acc_base.specs.Plays.{Play, Told, Turns, IsStuck, IsOver, IsFull}
use Rattle.acc_player.specs.declared.details.Detail.{Detail}
use Rattle.acc_player.specs.declared.details.Detail.TheVariants.{Lines, Marks}
use Rattle.acc_player.specs.declared.details.TheConstants.{BLOCKED, VICTIM}

-- the mark of why a transaction turned
abbrev pub cause_mark : Cause → List ℕ
cause_mark (cause.Refused n) = []
cause_mark cause.Range = []
cause_mark cause.Limit = []
cause_mark cause.Asked = []
cause_mark cause.Victim = VICTIM ∷ []
cause_mark cause.Crash = []

-- a turn is marked where it was blocked, and where it turned back as a victim
abbrev pub turn_mark : Turn → List ℕ
turn_mark (turn.Stepped at) = []
turn_mark (turn.Blocked holder entry) = BLOCKED ∷ []
turn_mark (turn.Turned c) = cause_mark c
turn_mark (turn.Back at) = []
turn_mark turn.Ended = []

abbrev pub mark : Told → List ℕ
mark (Turns place t) = turn_mark t
mark (IsStuck place) = []
mark (IsOver place) = []
mark (IsFull place) = []

-- a line, or a mark
abbrev pub told_text : Detail → Design → List ℕ → Told → List ℕ
told_text Lines d places told = told_line d places told
told_text Marks d places told = mark told

abbrev pub mention_text : Detail → Design → Told × Play → List ℕ
mention_text detail d x = told_text detail d x.1.places x.0
