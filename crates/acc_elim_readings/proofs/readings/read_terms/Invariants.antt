use Rattle.std.proofs.Common.{◌≡◌, [], drop}
use Rattle.acc_base.specs.Computing.{steps}
use Rattle.acc_elim_readings.specs.Readings.{read_term}
use Rattle.acc_elim_readings.proofs.readings.read_terms.Given as goal

abbrev pub invariant-loop-term : goal.invariant-loop-term
invariant-loop-term l = steps (read_term l.names) l.read (drop l.term-index l.terms) ≡ steps (read_term l.names) [] l.terms
