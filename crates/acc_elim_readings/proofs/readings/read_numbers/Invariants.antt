use Rattle.std.proofs.Common.{◌≡◌, drop}
use Rattle.acc_base.specs.Computing.{steps}
use Rattle.acc_elim_readings.specs.Readings.{read_number}
use Rattle.acc_elim_readings.proofs.readings.read_numbers.Given as goal

abbrev pub invariant-loop-term : goal.invariant-loop-term
invariant-loop-term l = steps read_number l.constant (drop l.term-index l.terms) ≡ steps read_number l.first l.terms
