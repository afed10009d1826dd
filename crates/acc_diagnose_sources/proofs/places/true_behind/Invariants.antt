use Rattle.std.proofs.Common.{◌≡◌, ◌≤◌, take}
use Rattle.acc_diagnose_sources.specs.Sources.{trues}
use Rattle.acc_diagnose_sources.proofs.places.true_behind.Given as goal

abbrev pub invariant-loop-i : goal.invariant-loop-i
invariant-loop-i l = record {
  passed : l.passed ≡ trues (take l.i l.shown);
  few : l.passed ≤ l.before;
}
