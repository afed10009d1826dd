use Rattle.std.proofs.Common.{◌≡◌, ◌+◌, drop}
use Rattle.acc_oblig.specs.Settings.{now_after, last_now}
use Rattle.acc_oblig_assumptions.specs.Seen.{seen}
use Rattle.acc_oblig_assumptions.proofs.settings.last_names.Given as goal

abbrev pub invariant-loop-r : goal.invariant-loop-r
invariant-loop-r l =
    record { x : l.x ≡ l.s.locals + 1 + l.r-index; now : now_after l.now l.x (drop l.r-index l.s.reads.now) ≡ last_now (seen l.s) }
