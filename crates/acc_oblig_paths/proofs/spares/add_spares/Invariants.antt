use Rattle.std.proofs.Common.{drop, map}
use Rattle.acc_oblig.specs.Spares.{held_drafts, all_spare_drafts}
use Rattle.acc_oblig_places.specs.SeenPlaces.{point_place}
use Rattle.acc_oblig_places.specs.DesignPlaces.{joined, at_point_place}
use Rattle.acc_oblig_clauses.proofs.Going.{Going}
use Rattle.acc_oblig_paths.proofs.spares.add_spares.Given as goal

abbrev pub invariant-loop-held : goal.invariant-loop-held
invariant-loop-held l =
    Going l.fn.out l.out (joined (at_point_place (held_drafts l.d)) (map point_place (drop l.held-index l.points))) (all_spare_drafts l.d)
