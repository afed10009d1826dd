use Rattle.std.proofs.Common.{take}
use Rattle.std.specs.List.{list_any}
use Rattle.acc_audit_ranges.specs.Ranges.{Adds, same}
use Rattle.acc_audit_ranges.proofs.values.add_all.Given as goal

abbrev pub invariant-loop-x : goal.invariant-loop-x
invariant-loop-x l = Adds (λ q. list_any (λ x. same x q) (take l.x-index l.xs)) l.fn.values l.values
