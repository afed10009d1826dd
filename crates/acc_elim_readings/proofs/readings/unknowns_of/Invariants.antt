use Rattle.std.proofs.Common.{◌≡◌, drop}
use Rattle.std.specs.List.{fold}
use Rattle.acc_elim_readings.specs.Readings.{with_rel, unknowns_of}
use Rattle.acc_elim_readings.proofs.readings.unknowns_of.Given as goal

abbrev pub invariant-loop-rel : goal.invariant-loop-rel
invariant-loop-rel l = fold with_rel l.names.items (drop l.rel-index l.rels) ≡ unknowns_of l.rels
