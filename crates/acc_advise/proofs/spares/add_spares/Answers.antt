use Rattle.std.proofs.Common.{sym, subst}
use Rattle.std.specs.Prelude.{List}
use Rattle.acc_base.specs.declared.forms.Clause.{Clause}
use Rattle.acc_oblig.specs.Drafts.{each_from}
use Rattle.acc_oblig_places.specs.ManyEntries.{with_entries}
use Rattle.acc_oblig_places.specs.SeenPlaces.{point_place}
use Rattle.acc_oblig_clauses.proofs.Going.{Going, going_all, going_on, going_off, going_past, each_next, each_past}
use Rattle.acc_advise.specs.TriedDesigns.{clause_spares, spares_of}
use Rattle.acc_advise.proofs.spares.add_spares.Goals as goal

pub loop-k-init : goal.loop-k-init
loop-k-init c =
    let t = c.args.taken.now in
    let d = with_entries c.args.d.now c.args.entries.now in
    let h = point_place c.args.held.now in
    let make = clause_spares d t.side h (point_place t.place) t.step.now in
    subst (λ (cs : List Clause). Going c.args.out.now c.args.out.now (each_from 0 make cs)
    (spares_of d t.side h (point_place t.place) t.step.now)) (sym c.as_slice-clauses.ensures) (going_all _ _)

pub loop-k-preserved : goal.loop-k-preserved
loop-k-preserved c =
    let t = c.args.taken.now in
    let d = with_entries c.args.d.now c.args.entries.now in
    let make = clause_spares d t.side (point_place c.args.held.now) (point_place t.place) t.step.now in
    going_on _ _ _ (make c.loop-k.k c.index-clauses-k.result) _ _ _
    (each_next make c.as_slice-clauses.result.now c.loop-k.k c.index-clauses-k.result c.loop-k-test.true c.index-clauses-k.is)
    c.loop-k.invariant c.in_ok-add_clause_spares.ensures

pub returns-in_err-add_clause_spares : goal.returns-in_err-add_clause_spares
returns-in_err-add_clause_spares c =
    let t = c.args.taken.now in
    let d = with_entries c.args.d.now c.args.entries.now in
    let make = clause_spares d t.side (point_place c.args.held.now) (point_place t.place) t.step.now in
    going_off _ _ _ (make c.loop-k.k c.index-clauses-k.result) _ _ _ _ _ _ c.from_residual.ensures.1
    (each_next make c.as_slice-clauses.result.now c.loop-k.k c.index-clauses-k.result c.loop-k-test.true c.index-clauses-k.is)
    c.loop-k.invariant c.in_err-add_clause_spares.ensures

pub returns : goal.returns
returns c =
    let t = c.args.taken.now in
    let d = with_entries c.args.d.now c.args.entries.now in
    let make = clause_spares d t.side (point_place c.args.held.now) (point_place t.place) t.step.now in
    going_past _ _ _ _ (each_past make c.as_slice-clauses.result.now c.loop-k.k c.loop-k-test.false) c.loop-k.invariant
