use Rattle.std.proofs.Common.{◌≡◌, ◌++◌, map, drop}
use Rattle.acc_oblig_places.specs.SeenPlaces.{point_place, path_place}
use Rattle.acc_oblig_places.specs.DesignPlaces.{places_of_point, joined}
use Rattle.acc_oblig_places.proofs.places.listed_paths.Given as goal

abbrev pub invariant-loop-q : goal.invariant-loop-q
invariant-loop-q l =
    map path_place l.out.items ++ joined places_of_point (map point_place (drop l.q-index l.points)) ≡ joined places_of_point
    (map point_place l.points)
