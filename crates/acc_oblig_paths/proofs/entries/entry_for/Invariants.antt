use Rattle.std.proofs.Common.{◌≡◌, drop}
use Rattle.acc_oblig.specs.Spares.{entry_for}
use Rattle.acc_oblig_paths.proofs.entries.entry_for.Given as goal

abbrev pub invariant-loop-e : goal.invariant-loop-e
invariant-loop-e l =
    entry_for (drop l.e-index l.entries) l.held l.step l.side ≡ entry_for l.entries l.held l.step l.side
