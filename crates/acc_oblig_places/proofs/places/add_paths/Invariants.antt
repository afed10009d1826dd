use Rattle.std.proofs.Common.{◌≡◌, ◌++◌, map, drop}
use Rattle.acc_oblig.specs.Drafts.{each, each_from}
use Rattle.acc_oblig_places.specs.SeenPlaces.{path_place}
use Rattle.acc_oblig_places.specs.DesignPlaces.{path_place_alone}
use Rattle.acc_oblig_places.proofs.places.add_paths.Given as goal

abbrev pub invariant-loop-i : goal.invariant-loop-i
invariant-loop-i l =
    map path_place l.out.items
    ++ each_from l.i (λ j path. path_place_alone (record { at = l.q.at; side = l.side; path = j }) l.q.ty.now l.q.point.now l.step path)
    (drop l.i l.paths)
    ≡ map path_place l.fn.out.items
    ++ each (λ j path. path_place_alone (record { at = l.q.at; side = l.side; path = j }) l.q.ty.now l.q.point.now l.step path) l.paths
