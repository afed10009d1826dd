-- The rules of the machine with locks, for plays.
use Rattle.std.specs.Prelude.{◌≡◌, ℕ, Option, None, Some}
use Rattle.acc_base.specs.declared.designs.Design.{Design}
use Rattle.acc_base.specs.declared.machines.Call.{Call}
use Rattle.acc_base.specs.declared.machines.Event.TheVariants.{Begin}
use Rattle.acc_base.specs.declared.machines.Turn.{Turn}
use Rattle.acc_base.specs.Machine.{World, after_event}
use Rattle.acc_base.specs.Plays.{Rules}
use Rattle.acc_plain.specs.Turned.{IsUnfinished}
use Rattle.acc_machine.specs.Begun.{HasRoom}
use Rattle.acc_machine.specs.Turns.{IsTurn}

-- a call begins where there is room for one more; else the machine is full
abbrev pub BeginsWithRoom : Design → World → Call → Option World → Type 0
BeginsWithRoom d w call None = ¬ HasRoom w
BeginsWithRoom d w call (Some v) = HasRoom w × (after_event d w (Begin call) ≡ Some v)

-- an unfinished transaction has the turn that the rules of locks give it; another has none
abbrev pub TurnsByLocks : Design → World → ℕ → Option (Turn × World) → Type 0
TurnsByLocks d w t None = ¬ IsUnfinished t w
TurnsByLocks d w t (Some x) = IsTurn d w x.1 t x.0

abbrev pub with_locks : Design → Rules
with_locks d = record { begins = BeginsWithRoom d; turns = TurnsByLocks d }
