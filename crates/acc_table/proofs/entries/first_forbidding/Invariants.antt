use Rattle.std.proofs.Common.{◌≡◌, ◌+◌, drop}
use Rattle.acc_base.specs.Effects.{first_from}
use Rattle.acc_table.specs.Entries.{entry_forbids}
use Rattle.acc_table.proofs.entries.first_forbidding.Given as goal

-- the first of the entries that are left is the first of all
abbrev pub invariant-loop-i : goal.invariant-loop-i
invariant-loop-i l =
    first_from (entry_forbids l.held l.held_locals l.step l.side l.locals) (l.i + 1) (drop l.i l.entries)
    ≡ first_from (entry_forbids l.held l.held_locals l.step l.side l.locals) 1 l.entries
