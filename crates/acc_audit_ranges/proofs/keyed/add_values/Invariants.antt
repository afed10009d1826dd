use Rattle.std.proofs.Common.{◌≡◌, ◌||◌, ℤ}
use Rattle.std.specs.List.{list_any}
use Rattle.std.specs.Ordering.{int_cmp}
use Rattle.std.specs.BTreeSet.{contains}
use Rattle.acc_audit_ranges.specs.Keyed.{shows}
use Rattle.acc_audit_ranges.proofs.keyed.add_values.Given as goal

-- what there is already, and what is left
abbrev pub invariant-loop-x : goal.invariant-loop-x
invariant-loop-x l =
    (q : ℤ) → (contains int_cmp l.values q || list_any (shows q) l.x-iterator)
    ≡ (contains int_cmp l.fn.values q || list_any (shows q) l.counted.entries)
