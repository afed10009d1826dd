use Rattle.std.proofs.Common.{take}
use Rattle.std.specs.List.{list_any}
use Rattle.acc_audit_ranges.specs.Ranges.{Adds, rel_gives}
use Rattle.acc_audit_ranges.proofs.ranges.add_guards.Given as goal

abbrev pub invariant-loop-guard : goal.invariant-loop-guard
invariant-loop-guard g l =
    Adds (λ q. list_any (rel_gives l.s l.variable q) (take l.guard-index l.guards)) l.fn.values l.values
