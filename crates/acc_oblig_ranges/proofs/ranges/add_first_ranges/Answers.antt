use Rattle.std.proofs.Common.{ℕ, ◌∙◌, ap, map, subst}
use Rattle.std.specs.Prelude.{List, Ok, Err}
use Rattle.acc_oblig.specs.Drafts.{each_number}
use Rattle.acc_oblig.specs.PointRules.{each_point}
use Rattle.acc_oblig.specs.Ranges.{range_at}
use Rattle.acc_oblig.specs.Drafts.{Draft}
use Rattle.acc_oblig_places.specs.SeenPlaces.{point_place}
use Rattle.acc_oblig_clauses.proofs.Going.{Going, going_all, going_on, going_off, going_past, number_next, number_past}
use Rattle.acc_oblig_places.proofs.Small.{design_small}
use Rattle.acc_oblig_clauses.proofs.Items.{number_all, points_added}
use Rattle.acc_oblig_ranges.proofs.ranges.add_first_ranges.Goals as goal

pub add_number_ranges-requires-clause-design : goal.add_number_ranges-requires-clause-design
add_number_ranges-requires-clause-design c = design_small c.args.d.now c.requires

pub loop-k-init : goal.loop-k-init
loop-k-init c =
    let make = λ (k : ℕ). each_point c.args.d.now (range_at c.args.d.now k) in
    subst (λ (z : List Draft). Going c.args.out.now c.args.out.now z (each_number 0 c.args.count make)) (number_all make c.args.count)
    (going_all _ _)

pub loop-k-preserved : goal.loop-k-preserved
loop-k-preserved c =
    let all = ap (map point_place) c.as_slice.ensures.value ∙ c.in_ok-points.ensures.value in
    going_on _ _ _ _ _ _ _ (number_next (λ k. each_point c.args.d.now (range_at c.args.d.now k)) c.args.count c.loop-k.k c.loop-k-test.true)
    c.loop-k.invariant
    (points_added (Ok tt) c.loop-k.out c.add_number_ranges.new.out c.args.d.now (range_at c.args.d.now c.loop-k.k) c.as_slice.result.now all
    c.in_ok-add_number_ranges.ensures)

pub returns-in_err-add_number_ranges : goal.returns-in_err-add_number_ranges
returns-in_err-add_number_ranges c =
    let all = ap (map point_place) c.as_slice.ensures.value ∙ c.in_ok-points.ensures.value in
    going_off _ _ _ _ _ _ _ _ _ _ c.from_residual-in_err-add_number_ranges.ensures.1
    (number_next (λ k. each_point c.args.d.now (range_at c.args.d.now k)) c.args.count c.loop-k.k c.loop-k-test.true) c.loop-k.invariant
    (points_added (Err c.in_err-add_number_ranges.field-0.0) c.loop-k.out c.add_number_ranges.new.out c.args.d.now
    (range_at c.args.d.now c.loop-k.k) c.as_slice.result.now all c.in_err-add_number_ranges.ensures)

pub returns : goal.returns
returns c = going_past _ _ _ _ (number_past (λ k. each_point c.args.d.now (range_at c.args.d.now k)) c.args.count c.loop-k.k
    c.loop-k-test.false) c.loop-k.invariant
