-- What an effect looks like from outside: where it leads, and the locals that it leaves.
use Rattle.std.specs.Prelude.{List, Option, Some, None, ℤ}
use Rattle.acc_base.specs.declared.steps.Target.{Target}
use Rattle.acc_base.specs.declared.steps.Target.TheVariants.{Point as ToPoint, Commit, Undone, Refuse}
use Rattle.acc_base.specs.Effects.{Effect, Goes, Refuses, OutOfRange}
use Rattle.acc_step.specs.declared.looks.Outlook.{Outlook}
use Rattle.acc_step.specs.declared.looks.Outlook.TheVariants.{Range, Refused, Goes as Leads}

-- a step that takes this target in range
abbrev pub outlook_to : Target → Outlook
outlook_to (ToPoint p) = Leads (ToPoint p)
outlook_to Commit = Leads Commit
outlook_to Undone = Leads Undone
outlook_to (Refuse n) = Refused n

abbrev pub outlook_of : Effect → Outlook
outlook_of (Goes rows reading path to) = Leads to
outlook_of (Refuses reading n) = Refused n
outlook_of OutOfRange = Range

-- the locals after the reads, where no number leaves the range
abbrev pub locals_after : Effect → Option (List ℤ)
locals_after (Goes rows reading path to) = Some reading.locals
locals_after (Refuses reading n) = Some reading.locals
locals_after OutOfRange = None
