use Rattle.acc_oblig_points.specs.Bounds.{bound_drafts}
use Rattle.acc_oblig_places.specs.SeenPlaces.{point_place}
use Rattle.acc_oblig_places.specs.DesignPlaces.{at_point_place}
use Rattle.acc_oblig_clauses.proofs.Going.{going_all, going_on, going_off, going_past, joined_next, joined_past}
use Rattle.acc_oblig_points.proofs.variants.add_bounds.Goals as goal

pub loop-q-init : goal.loop-q-init
loop-q-init c = going_all _ _

pub loop-q-preserved : goal.loop-q-preserved
loop-q-preserved c =
    going_on _ _ _ (at_point_place (bound_drafts c.args.d.now c.args.bound) (point_place c.q-item.result)) _ _ _
    (joined_next point_place (at_point_place (bound_drafts c.args.d.now c.args.bound)) c.args.points.now c.loop-q.q-index c.q-item.result
    c.loop-q-test.true c.q-item.is)
    c.loop-q.invariant c.in_ok-add_point_bound.ensures

pub returns-in_err-add_point_bound : goal.returns-in_err-add_point_bound
returns-in_err-add_point_bound c =
    going_off _ _ _ (at_point_place (bound_drafts c.args.d.now c.args.bound) (point_place c.q-item.result)) _ _ _ _ _ _
    c.from_residual.ensures.1
    (joined_next point_place (at_point_place (bound_drafts c.args.d.now c.args.bound)) c.args.points.now c.loop-q.q-index c.q-item.result
    c.loop-q-test.true c.q-item.is)
    c.loop-q.invariant c.in_err-add_point_bound.ensures

pub returns : goal.returns
returns c =
    going_past _ _ _ _ (joined_past point_place (at_point_place (bound_drafts c.args.d.now c.args.bound)) c.args.points.now c.loop-q.q-index
    c.loop-q-test.false) c.loop-q.invariant
