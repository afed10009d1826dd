use Rattle.std.proofs.Common.{drop, map}
use Rattle.acc_oblig.specs.PointRules.{clear_at}
use Rattle.acc_oblig_places.specs.SeenPlaces.{path_place}
use Rattle.acc_oblig_places.specs.DesignPlaces.{joined, at_path_place}
use Rattle.acc_oblig_clauses.proofs.Going.{Going}
use Rattle.acc_oblig_points.proofs.clears.add_table_clears.Given as goal

abbrev pub invariant-loop-q : goal.invariant-loop-q
invariant-loop-q l =
    let make = at_path_place (clear_at l.d l.t l.table) in
    Going l.fn.out l.out (joined make (map path_place (drop l.q-index l.paths))) (joined make (map path_place l.paths))
