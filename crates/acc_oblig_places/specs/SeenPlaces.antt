-- Points and paths as the definitions see them.
use Rattle.acc_oblig_places.specs.declared.places.PointPlace.{PointPlace as HeldPoint}
use Rattle.acc_oblig_places.specs.declared.places.PathPlace.{PathPlace as HeldPath}
use Rattle.acc_oblig_places.specs.DesignPlaces.{PointPlace, PathPlace}

abbrev pub point_place : HeldPoint → PointPlace
point_place q = record { at = q.at; x = q.ty.now; p = q.point.now }

abbrev pub path_place : HeldPath → PathPlace
path_place q =
    record {
      w = record { at = q.at; side = q.side; path = q.number };
      x = q.ty.now;
      p = q.point.now;
      step = q.step.now;
      path = q.path.now;
    }
