use Rattle.std.proofs.Common.{map, refl}
use Rattle.acc_oblig_places.specs.SeenPlaces.{point_place}
use Rattle.acc_oblig_places.specs.DesignPlaces.{joined, at_point_place}
use Rattle.acc_oblig_clauses.proofs.Going.{going_all, going_on, going_off}
use Rattle.acc_oblig_points.specs.declared.variants.Bound.TheVariants.{Lowest, Highest}
use Rattle.acc_oblig_points.specs.Bounds.{bound_drafts, both_bounds}
use Rattle.acc_oblig_clauses.proofs.Items.{going_then}
use Rattle.acc_oblig_points.proofs.variants.add_both_bounds.Goals as goal

pub returns-in_err-add_bounds : goal.returns-in_err-add_bounds
returns-in_err-add_bounds c =
    let d = c.args.d.now in
    let qs = map point_place c.args.points.now in
    going_off c.args.out.now c.args.out.now c.add_bounds.new.out (joined (at_point_place (bound_drafts d Lowest)) qs)
    (joined (at_point_place (bound_drafts d Highest)) qs) (both_bounds d qs) (both_bounds d qs) _ _ _ c.from_residual.ensures.1 refl
    (going_all c.args.out.now (both_bounds d qs)) c.in_err-add_bounds.ensures

pub returns : goal.returns
returns c =
    let d = c.args.d.now in
    let qs = map point_place c.args.points.now in
    let old = c.args.out.now in
    let mid = c.add_bounds.new.out in
    going_then c.add_bounds-2.result old mid c.add_bounds-2.new.out (joined (at_point_place (bound_drafts d Highest)) qs) (both_bounds d qs)
    (going_on old old mid (joined (at_point_place (bound_drafts d Lowest)) qs) (joined (at_point_place (bound_drafts d Highest)) qs)
    (both_bounds d qs)
    (both_bounds d qs) refl (going_all old (both_bounds d qs)) c.in_ok-add_bounds.ensures) c.add_bounds-2.ensures
