use Rattle.std.proofs.Common.{drop, map}
use Rattle.acc_oblig.specs.Ranges.{range_at}
use Rattle.acc_oblig_places.specs.SeenPlaces.{point_place}
use Rattle.acc_oblig_places.specs.DesignPlaces.{joined, at_point_place}
use Rattle.acc_oblig_clauses.proofs.Going.{Going}
use Rattle.acc_oblig_ranges.proofs.ranges.add_number_ranges.Given as goal

abbrev pub invariant-loop-q : goal.invariant-loop-q
invariant-loop-q l =
    let make = at_point_place (range_at l.d l.k) in
    Going l.fn.out l.out (joined make (map point_place (drop l.q-index l.points))) (joined make (map point_place l.points))
