use Rattle.std.proofs.Common.{◌≡◌, drop}
use Rattle.std.specs.List.{fold}
use Rattle.acc_elim_readings.specs.Readings.{with_rel}
use Rattle.acc_elim_decisions.proofs.reading.add_unknowns.Given as goal

abbrev pub invariant-loop-rel : goal.invariant-loop-rel
invariant-loop-rel l = fold with_rel l.names.items (drop l.rel-index l.rels) ≡ fold with_rel l.fn.names.items l.rels
