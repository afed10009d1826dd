use Rattle.std.proofs.Common.{◌≡◌, ◌+◌, drop}
use Rattle.acc_base.specs.Effects.{first_from}
use Rattle.acc_table.specs.Entries.{either_clashes}
use Rattle.acc_table.proofs.entries.first_clashing.Given as goal

-- the first of the entries that are left is the first of all
abbrev pub invariant-loop-i : goal.invariant-loop-i
invariant-loop-i l =
    first_from (either_clashes l.a l.a_points l.a_locals l.b l.b_points l.b_locals) (l.i + 1) (drop l.i l.entries)
    ≡ first_from (either_clashes l.a l.a_points l.a_locals l.b l.b_points l.b_locals) 1 l.entries
