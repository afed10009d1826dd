use Rattle.std.proofs.Common.{length, ap, arith, sym, subst}
use Rattle.std.specs.Prelude.{List}
use Rattle.acc_base.specs.declared.steps.Path.{Path}
use Rattle.acc_oblig.specs.Drafts.{each_from}
use Rattle.acc_oblig_places.specs.ManyEntries.{with_entries}
use Rattle.acc_oblig_places.specs.SeenPlaces.{point_place}
use Rattle.acc_oblig_clauses.proofs.Going.{Going, going_all, going_on, going_off, going_past, each_next, each_past}
use Rattle.acc_advise.specs.TriedDesigns.{clause_spares}
use Rattle.acc_advise.proofs.StepSpares.{path_spares}
use Rattle.acc_advise.proofs.spares.add_clause_spares.Goals as goal

pub add_spare_among-requires-clause-small : goal.add_spare_among-requires-clause-small
add_spare_among-requires-clause-small c =
    let few = c.requires.step.paths in
    let n = ap length c.as_slice-paths.ensures in
    let l = c.loop-j-test.true in
    record {
      at = c.requires.place.at;
      number = omega (arith, few, n, l);
      x = c.requires.place.x;
      p = c.requires.place.p;
      step = c.requires.step;
    }

pub loop-j-init : goal.loop-j-init
loop-j-init c =
    let t = c.args.taken.now in
    let d = with_entries c.args.d.now c.args.entries.now in
    let h = point_place c.args.held.now in
    let make = path_spares d t.side h (point_place t.place) t.step.now c.args.k c.args.c.now in
    subst (λ (ps : List Path). Going c.args.out.now c.args.out.now (each_from 0 make ps)
    (clause_spares d t.side h (point_place t.place) t.step.now c.args.k c.args.c.now)) (sym c.as_slice-paths.ensures) (going_all _ _)

pub loop-j-preserved : goal.loop-j-preserved
loop-j-preserved c =
    let t = c.args.taken.now in
    let d = with_entries c.args.d.now c.args.entries.now in
    let make = path_spares d t.side (point_place c.args.held.now) (point_place t.place) t.step.now c.args.k c.args.c.now in
    going_on _ _ _ (make c.loop-j.j c.index-paths-j.result) _ _ _
    (each_next make c.as_slice-paths.result.now c.loop-j.j c.index-paths-j.result c.loop-j-test.true c.index-paths-j.is)
    c.loop-j.invariant c.in_ok-add_spare_among.ensures

pub returns-in_err-add_spare_among : goal.returns-in_err-add_spare_among
returns-in_err-add_spare_among c =
    let t = c.args.taken.now in
    let d = with_entries c.args.d.now c.args.entries.now in
    let make = path_spares d t.side (point_place c.args.held.now) (point_place t.place) t.step.now c.args.k c.args.c.now in
    going_off _ _ _ (make c.loop-j.j c.index-paths-j.result) _ _ _ _ _ _ c.from_residual.ensures.1
    (each_next make c.as_slice-paths.result.now c.loop-j.j c.index-paths-j.result c.loop-j-test.true c.index-paths-j.is)
    c.loop-j.invariant c.in_err-add_spare_among.ensures

pub returns : goal.returns
returns c =
    let t = c.args.taken.now in
    let d = with_entries c.args.d.now c.args.entries.now in
    let make = path_spares d t.side (point_place c.args.held.now) (point_place t.place) t.step.now c.args.k c.args.c.now in
    going_past _ _ _ _ (each_past make c.as_slice-paths.result.now c.loop-j.j c.loop-j-test.false) c.loop-j.invariant
