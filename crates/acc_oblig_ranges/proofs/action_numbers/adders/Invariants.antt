use Rattle.std.proofs.Common.{◌≡◌, take}
use Rattle.std.specs.Prelude.{count_by}
use Rattle.acc_base.specs.Soundness.{adds_to}
use Rattle.acc_oblig_ranges.proofs.action_numbers.adders.Given as goal

abbrev pub invariant-loop-a : goal.invariant-loop-a
invariant-loop-a l = l.count ≡ count_by (adds_to l.t l.c) (take l.a-index l.actions)
