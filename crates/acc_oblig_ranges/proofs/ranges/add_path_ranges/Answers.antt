use Rattle.std.proofs.Common.{ℕ, sym, subst}
use Rattle.std.specs.Prelude.{List}
use Rattle.acc_base.specs.declared.steps.Path.{Path}
use Rattle.acc_base.specs.declared.designs.Side.TheVariants.{Undo}
use Rattle.acc_oblig.specs.Drafts.{each_from}
use Rattle.acc_oblig_places.specs.SeenPlaces.{point_place}
use Rattle.acc_oblig_ranges.specs.PathRanges.{path_range, undo_ranges}
use Rattle.acc_oblig_clauses.proofs.Going.{Going, going_all, going_on, going_off, going_past, each_next, each_past}
use Rattle.acc_oblig_ranges.proofs.ranges.add_path_ranges.Goals as goal

pub loop-j-init : goal.loop-j-init
loop-j-init c =
    let make = λ (j : ℕ) (path : Path). path_range c.args.d.now c.args.k c.args.place
    (record { at = c.args.q.now.at; side = Undo; path = j }) c.args.q.now.ty.now c.args.q.now.point.now c.args.q.now.point.now.undo
    path in
    subst (λ (ps : List Path). Going c.args.out.now c.args.out.now (each_from 0 make ps)
    (undo_ranges c.args.d.now c.args.k c.args.place (point_place c.args.q.now)))
    (sym c.as_slice-paths.ensures) (going_all _ _)

pub loop-j-preserved : goal.loop-j-preserved
loop-j-preserved c =
    let make = λ (j : ℕ) (path : Path). path_range c.args.d.now c.args.k c.args.place
    (record { at = c.args.q.now.at; side = Undo; path = j }) c.args.q.now.ty.now c.args.q.now.point.now c.args.q.now.point.now.undo
    path in
    going_on _ _ _ (make c.loop-j.j c.index-paths-j.result) _ _ _
    (each_next make c.as_slice-paths.result.now c.loop-j.j c.index-paths-j.result c.loop-j-test.true c.index-paths-j.is)
    c.loop-j.invariant c.in_ok-add_path_range.ensures

pub returns-in_err-add_path_range : goal.returns-in_err-add_path_range
returns-in_err-add_path_range c =
    let make = λ (j : ℕ) (path : Path). path_range c.args.d.now c.args.k c.args.place
    (record { at = c.args.q.now.at; side = Undo; path = j }) c.args.q.now.ty.now c.args.q.now.point.now c.args.q.now.point.now.undo
    path in
    going_off _ _ _ (make c.loop-j.j c.index-paths-j.result) _ _ _ _ _ _ c.from_residual.ensures.1
    (each_next make c.as_slice-paths.result.now c.loop-j.j c.index-paths-j.result c.loop-j-test.true c.index-paths-j.is)
    c.loop-j.invariant c.in_err-add_path_range.ensures

pub returns : goal.returns
returns c =
    let make = λ (j : ℕ) (path : Path). path_range c.args.d.now c.args.k c.args.place
    (record { at = c.args.q.now.at; side = Undo; path = j }) c.args.q.now.ty.now c.args.q.now.point.now c.args.q.now.point.now.undo
    path in
    going_past _ _ _ _ (each_past make c.as_slice-paths.result.now c.loop-j.j c.loop-j-test.false) c.loop-j.invariant
