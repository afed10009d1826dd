use Rattle.acc_oblig.specs.Ranges.{range_at}
use Rattle.acc_oblig_places.specs.SeenPlaces.{point_place}
use Rattle.acc_oblig_places.specs.DesignPlaces.{at_point_place}
use Rattle.acc_oblig_clauses.proofs.Going.{going_all, going_on, going_off, going_past, joined_next, joined_past}
use Rattle.acc_oblig_ranges.proofs.ranges.add_number_ranges.Goals as goal

pub loop-q-init : goal.loop-q-init
loop-q-init c = going_all _ _

pub loop-q-preserved : goal.loop-q-preserved
loop-q-preserved c =
    going_on _ _ _ (at_point_place (range_at c.args.d.now c.args.k) (point_place c.q-item.result)) _ _ _
    (joined_next point_place (at_point_place (range_at c.args.d.now c.args.k)) c.args.points.now c.loop-q.q-index c.q-item.result
    c.loop-q-test.true
    c.q-item.is)
    c.loop-q.invariant c.in_ok-add_point_range.ensures

pub returns-in_err-add_point_range : goal.returns-in_err-add_point_range
returns-in_err-add_point_range c =
    going_off _ _ _ (at_point_place (range_at c.args.d.now c.args.k) (point_place c.q-item.result)) _ _ _ _ _ _ c.from_residual.ensures.1
    (joined_next point_place (at_point_place (range_at c.args.d.now c.args.k)) c.args.points.now c.loop-q.q-index c.q-item.result
    c.loop-q-test.true
    c.q-item.is)
    c.loop-q.invariant c.in_err-add_point_range.ensures

pub returns : goal.returns
returns c =
    going_past _ _ _ _ (joined_past point_place
    (at_point_place (range_at c.args.d.now c.args.k)) c.args.points.now c.loop-q.q-index c.loop-q-test.false)
    c.loop-q.invariant
