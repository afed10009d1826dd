use Rattle.std.proofs.Common.{◌≡◌, drop}
use Rattle.std.specs.List.{fold}
use Rattle.acc_elim_readings.specs.Readings.{with_term}
use Rattle.acc_elim_readings.proofs.readings.add_names.Given as goal

abbrev pub invariant-loop-term : goal.invariant-loop-term
invariant-loop-term l = fold with_term l.names.items (drop l.term-index l.terms) ≡ fold with_term l.fn.names.items l.terms
