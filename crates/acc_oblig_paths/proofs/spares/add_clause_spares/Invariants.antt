use Rattle.std.proofs.Common.{drop, map}
use Rattle.acc_oblig.specs.Spares.{spare_at}
use Rattle.acc_oblig_places.specs.SeenPlaces.{path_place}
use Rattle.acc_oblig_places.specs.DesignPlaces.{joined, at_path_place}
use Rattle.acc_oblig_clauses.proofs.Going.{Going}
use Rattle.acc_oblig_paths.proofs.spares.add_clause_spares.Given as goal

abbrev pub invariant-loop-q : goal.invariant-loop-q
invariant-loop-q l =
    let make = at_path_place (spare_at l.d l.held.at l.held.ty.now l.held.point.now l.k l.c) in
    Going l.fn.out l.out (joined make (map path_place (drop l.q-index l.paths))) (joined make (map path_place l.paths))
