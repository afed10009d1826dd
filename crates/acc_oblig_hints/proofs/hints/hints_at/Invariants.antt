-- The hints found so far, and then those that are left, are all of them.
use Rattle.std.proofs.Common.{◌≡◌, ◌++◌, drop}
use Rattle.acc_oblig_hints.specs.Hints.{hints_at}
use Rattle.acc_oblig_hints.proofs.hints.hints_at.Given as goal

abbrev pub invariant-loop-hint : goal.invariant-loop-hint
invariant-loop-hint l =
    l.found ++ hints_at l.names l.place.0 l.place.1 (drop l.hint-index l.hints) ≡ hints_at l.names l.place.0 l.place.1 l.hints
