use Rattle.std.proofs.Common.{drop, map}
use Rattle.acc_oblig_points.specs.Bounds.{bound_drafts}
use Rattle.acc_oblig_places.specs.SeenPlaces.{point_place}
use Rattle.acc_oblig_places.specs.DesignPlaces.{joined, at_point_place}
use Rattle.acc_oblig_clauses.proofs.Going.{Going}
use Rattle.acc_oblig_points.proofs.variants.add_bounds.Given as goal

abbrev pub invariant-loop-q : goal.invariant-loop-q
invariant-loop-q l =
    let make = at_point_place (bound_drafts l.d l.bound) in
    Going l.fn.out l.out (joined make (map point_place (drop l.q-index l.points))) (joined make (map point_place l.points))
