use Rattle.std.proofs.Common.{◌++◌, map, ap, sym, ◌∙◌, append_assoc}
use Rattle.std.specs.Prelude.{List, Ok, Err}
use Rattle.acc_oblig.specs.Drafts.{Draft, each_path}
use Rattle.acc_oblig.specs.PointRules.{each_point, fall_at}
use Rattle.acc_oblig_places.specs.SeenPlaces.{point_place, path_place}
use Rattle.acc_oblig_clauses.proofs.Going.{going_all, going_on, going_off}
use Rattle.acc_oblig_clauses.proofs.PathAdded.{paths_added}
use Rattle.acc_oblig_places.proofs.Small.{design_small}
use Rattle.acc_oblig_points.specs.declared.variants.Bound.TheVariants.{Lowest, Highest}
use Rattle.acc_oblig_points.specs.Bounds.{bound_drafts}
use Rattle.acc_oblig_clauses.proofs.Items.{going_then, both_points_added}
use Rattle.acc_oblig_points.proofs.variants.add_variants.Goals as goal

pub add_both_bounds-requires-clause-design : goal.add_both_bounds-requires-clause-design
add_both_bounds-requires-clause-design c = design_small c.args.d.now c.requires

pub add_falls-requires-clause-design : goal.add_falls-requires-clause-design
add_falls-requires-clause-design c = design_small c.args.d.now c.requires

pub returns-in_err-add_both_bounds : goal.returns-in_err-add_both_bounds
returns-in_err-add_both_bounds c =
    let d = c.args.d.now in
    let old = c.args.out.now in
    let low : List Draft = each_point d (bound_drafts d Lowest) in
    let high : List Draft = each_point d (bound_drafts d Highest) in
    let falls : List Draft = each_path d (fall_at d) in
    let points = ap (map point_place) c.as_slice.ensures.value ∙ c.in_ok-points.ensures.value in
    going_off old old c.add_both_bounds.new.out (low ++ high) falls (low ++ (high ++ falls)) (low ++ (high ++ falls)) _ _ _
    c.from_residual-in_err-add_both_bounds.ensures.1 (sym (append_assoc low high falls)) (going_all old (low ++ (high ++ falls)))
    (both_points_added (Err c.in_err-add_both_bounds.field-0.0) old c.add_both_bounds.new.out d (bound_drafts d Lowest)
    (bound_drafts d Highest)
    c.as_slice.result.now points c.in_err-add_both_bounds.ensures)

pub returns : goal.returns
returns c =
    let d = c.args.d.now in
    let old = c.args.out.now in
    let mid = c.add_both_bounds.new.out in
    let low : List Draft = each_point d (bound_drafts d Lowest) in
    let high : List Draft = each_point d (bound_drafts d Highest) in
    let falls : List Draft = each_path d (fall_at d) in
    let points = ap (map point_place) c.as_slice.ensures.value ∙ c.in_ok-points.ensures.value in
    let paths = ap (map path_place) c.as_slice-all.ensures.value ∙ c.in_ok-paths.ensures.value in
    going_then c.add_falls.result old mid c.add_falls.new.out falls (low ++ (high ++ falls))
    (going_on old old mid (low ++ high) falls (low ++ (high ++ falls)) (low ++ (high ++ falls)) (sym (append_assoc low high falls))
    (going_all old (low ++ (high ++ falls)))
    (both_points_added (Ok tt) old mid d (bound_drafts d Lowest) (bound_drafts d Highest) c.as_slice.result.now points
    c.in_ok-add_both_bounds.ensures))
    (paths_added c.add_falls.result mid c.add_falls.new.out d (fall_at d) c.as_slice-all.result.now paths c.add_falls.ensures)
