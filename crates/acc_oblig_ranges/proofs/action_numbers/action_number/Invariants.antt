use Rattle.std.proofs.Common.{drop}
use Rattle.acc_oblig.specs.Ranges.{numbers_of}
use Rattle.acc_oblig_ranges.specs.declared.found.Found.{Found}
use Rattle.acc_oblig_ranges.specs.declared.action_numbers.ActionNumber.{ActionNumber}
use Rattle.acc_oblig_ranges.specs.Numbers.{StandsAt, seen_action}
use Rattle.acc_oblig_ranges.proofs.action_numbers.action_number.Given as goal

abbrev pub invariant-loop-a : goal.invariant-loop-a
invariant-loop-a l =
    (f : Found ActionNumber) → StandsAt seen_action (numbers_of l.actions (drop l.a-index l.actions)) l.left f
    → StandsAt seen_action (numbers_of l.actions l.actions) l.place f
