use Rattle.std.proofs.Common.{◌≡◌, take}
use Rattle.std.specs.Prelude.{filter}
use Rattle.acc_base.specs.Collecting.{is_left, sums_in}
use Rattle.acc_base.proofs.collecting.Sums.kept.Given as goal

abbrev pub invariant-loop-unknown : goal.invariant-loop-unknown
invariant-loop-unknown g l = l.terms ≡ filter is_left (sums_in (take l.unknown-index l.unknown-items))
