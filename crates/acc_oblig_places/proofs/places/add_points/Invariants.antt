use Rattle.std.proofs.Common.{◌≡◌, ◌++◌, map, drop}
use Rattle.acc_oblig.specs.Drafts.{each, each_from}
use Rattle.acc_oblig_places.specs.SeenPlaces.{point_place}
use Rattle.acc_oblig_places.specs.DesignPlaces.{point_place_alone}
use Rattle.acc_oblig_places.proofs.places.add_points.Given as goal

abbrev pub invariant-loop-i : goal.invariant-loop-i
invariant-loop-i l =
    map point_place l.out.items ++ each_from l.i (point_place_alone l.number l.ty) (drop l.i l.points)
    ≡ map point_place l.fn.out.items ++ each (point_place_alone l.number l.ty) l.points
