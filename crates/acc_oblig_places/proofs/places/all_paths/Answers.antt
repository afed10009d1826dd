use Rattle.std.proofs.Common.{map, ap, ◌∙◌}
use Rattle.acc_oblig_places.specs.SeenPlaces.{point_place}
use Rattle.acc_oblig_places.specs.DesignPlaces.{joined, places_of_point}
use Rattle.acc_oblig_places.proofs.EachPath.{all_path_places}
use Rattle.acc_oblig_places.proofs.places.all_paths.Goals as goal

pub returns-clause-value : goal.returns-clause-value
returns-clause-value c =
    c.in_ok-paths.ensures.value ∙ (ap (λ z. joined places_of_point (map point_place z)) c.as_slice.ensures.value
    ∙ (ap (joined places_of_point) c.in_ok-points.ensures.value ∙ all_path_places c.args.d.now))
