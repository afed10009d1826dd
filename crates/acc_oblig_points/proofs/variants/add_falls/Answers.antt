use Rattle.acc_oblig.specs.PointRules.{fall_at}
use Rattle.acc_oblig_places.specs.SeenPlaces.{path_place}
use Rattle.acc_oblig_places.specs.DesignPlaces.{at_path_place}
use Rattle.acc_oblig_clauses.proofs.Going.{going_all, going_on, going_off, going_past, joined_next, joined_past}
use Rattle.acc_oblig_points.proofs.variants.add_falls.Goals as goal

pub loop-q-init : goal.loop-q-init
loop-q-init c = going_all _ _

pub loop-q-preserved : goal.loop-q-preserved
loop-q-preserved c =
    going_on _ _ _ _ _ _ _
    (joined_next path_place (at_path_place (fall_at c.args.d.now)) c.args.paths.now c.loop-q.q-index c.q-item.result c.loop-q-test.true
    c.q-item.is)
    c.loop-q.invariant c.in_ok-add_path_fall.ensures

pub returns-in_err-add_path_fall : goal.returns-in_err-add_path_fall
returns-in_err-add_path_fall c =
    going_off _ _ _ _ _ _ _ _ _ _ c.from_residual.ensures.1
    (joined_next path_place (at_path_place (fall_at c.args.d.now)) c.args.paths.now c.loop-q.q-index c.q-item.result c.loop-q-test.true
    c.q-item.is)
    c.loop-q.invariant c.in_err-add_path_fall.ensures

pub returns : goal.returns
returns c =
    going_past _ _ _ _ (joined_past path_place (at_path_place (fall_at c.args.d.now)) c.args.paths.now c.loop-q.q-index c.loop-q-test.false)
    c.loop-q.invariant
