use Rattle.std.proofs.Common.{◌≡◌, drop}
use Rattle.acc_rows.specs.Answers.{behind}
use Rattle.acc_elim_readings.specs.Readings.{rows_from}
use Rattle.acc_elim_readings.proofs.readings.rows_of.Given as goal

abbrev pub invariant-loop-rel : goal.invariant-loop-rel
invariant-loop-rel l =
    record {
      place : l.place ≡ l.rel-index;
      so_far : behind l.rows.items (rows_from l.names l.rel-index (drop l.rel-index l.rels)) ≡ rows_from l.names 0 l.rels;
    }
