use Rattle.std.proofs.Common.{◌≡◌, ◌+◌, map, drop, ap, sym, subst, ◌∙◌}
use Rattle.acc_oblig.specs.Spares.{held_drafts, all_spare_drafts}
use Rattle.acc_oblig_places.specs.SeenPlaces.{point_place}
use Rattle.acc_oblig_places.specs.DesignPlaces.{joined, at_point_place}
use Rattle.acc_oblig_places.proofs.EachPath.{each_point_is}
use Rattle.acc_oblig_clauses.proofs.Going.{Going, going_all, going_on, going_off, joined_next}
use Rattle.acc_oblig_places.proofs.Small.{design_small}
use Rattle.acc_oblig_paths.proofs.spares.add_spares.Goals as goal

pub add_point_spares-requires-clause-design : goal.add_point_spares-requires-clause-design
add_point_spares-requires-clause-design c = design_small c.args.d.now c.requires

pub loop-held-init : goal.loop-held-init
loop-held-init c =
    let d = c.args.d.now in
    let all : joined (at_point_place (held_drafts d)) (map point_place c.as_slice-points.result.now) ≡ all_spare_drafts d =
    ap (λ z. joined (at_point_place (held_drafts d)) (map point_place z)) c.as_slice-points.ensures.value
    ∙ (ap (joined (at_point_place (held_drafts d))) c.in_ok-listed.ensures.value ∙ each_point_is d (held_drafts d)) in
    subst (λ z. Going c.args.out.now c.args.out.now z (all_spare_drafts d)) (sym all) (going_all c.args.out.now (all_spare_drafts d))

pub loop-held-preserved : goal.loop-held-preserved
loop-held-preserved c =
    let make = at_point_place (held_drafts c.args.d.now) in
    let points = c.as_slice-points.result.now in
    going_on _ _ _ (make (point_place c.held-item.result)) (joined make (map point_place (drop (c.loop-held.held-index + 1) points))) _ _
    (joined_next point_place make points c.loop-held.held-index c.held-item.result c.loop-held-test.true c.held-item.is)
    c.loop-held.invariant c.in_ok-add_point_spares.ensures

pub returns-in_err-add_point_spares : goal.returns-in_err-add_point_spares
returns-in_err-add_point_spares c =
    let make = at_point_place (held_drafts c.args.d.now) in
    let points = c.as_slice-points.result.now in
    going_off _ _ _ (make (point_place c.held-item.result))
    (joined make (map point_place (drop (c.loop-held.held-index + 1) points))) _ _ _ _ _
    c.from_residual-in_err-add_point_spares.ensures.1
    (joined_next point_place make points c.loop-held.held-index c.held-item.result c.loop-held-test.true c.held-item.is)
    c.loop-held.invariant c.in_err-add_point_spares.ensures
