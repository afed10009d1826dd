use Rattle.std.proofs.Common.{◌≡◌, drop}
use Rattle.acc_base.specs.Computing.{steps}
use Rattle.acc_elim_readings.specs.Readings.{read_next}
use Rattle.acc_elim_decisions.proofs.reading.read_all.Given as goal

abbrev pub invariant-loop-rel : goal.invariant-loop-rel
invariant-loop-rel l =
    steps read_next (l.names.items, l.rows.items) (drop l.rel-index l.rels) ≡ steps read_next (l.fn.names.items, l.fn.rows.items) l.rels
