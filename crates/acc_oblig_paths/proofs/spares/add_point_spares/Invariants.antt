use Rattle.std.proofs.Common.{ℕ, drop}
use Rattle.acc_base.specs.declared.forms.Clause.{Clause}
use Rattle.acc_oblig.specs.Drafts.{each_from, each_path}
use Rattle.acc_oblig.specs.Spares.{spare_at, held_drafts}
use Rattle.acc_oblig_places.specs.SeenPlaces.{point_place}
use Rattle.acc_oblig_places.specs.DesignPlaces.{at_point_place}
use Rattle.acc_oblig_clauses.proofs.Going.{Going}
use Rattle.acc_oblig_paths.proofs.spares.add_point_spares.Given as goal

abbrev pub invariant-loop-k : goal.invariant-loop-k
invariant-loop-k l =
    Going l.fn.out l.out
    (each_from l.k (λ (k : ℕ) (c : Clause). each_path l.d (spare_at l.d l.held.at l.held.ty.now l.held.point.now k c)) (drop l.k l.clauses))
    (at_point_place (held_drafts l.d) (point_place l.held))
