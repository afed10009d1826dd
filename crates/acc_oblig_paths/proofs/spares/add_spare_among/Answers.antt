use Rattle.std.proofs.Common.{◌≡◌, true, List, length, ap, sym, subst, ◌∙◌}
use Rattle.std.specs.Prelude.{Some}
use Rattle.acc_base.specs.declared.steps.Action.{Action}
use Rattle.acc_oblig.specs.Settings.{Setting}
use Rattle.acc_oblig.specs.PathPromises.{clause_names}
use Rattle.acc_oblig.specs.Spares.{entry_for, spare_drafts}
use Rattle.acc_oblig_goals.specs.Causes.{Adds, at_case}
use Rattle.acc_oblig_places.specs.ManyEntries.{with_entries}
use Rattle.acc_oblig_places.specs.SeenPlaces.{point_place, path_place}
use Rattle.acc_oblig_paths.specs.Openings.{open_by}
use Rattle.acc_oblig_paths.proofs.Kept.{setting_at, spare_opened}
use Rattle.acc_oblig_paths.proofs.spares.add_spare_among.Goals as goal

pub returns-in-Some : goal.returns-in-Some
returns-in-Some c =
    let q = path_place c.args.q.now in
    let d = with_entries c.args.d.now c.args.entries.now in
    let held = point_place c.args.held.now in
    let clause = c.args.c.now in
    let side = q.w.side in
    let names : true ≡ clause_names q.path.actions clause =
    c.if-not-clause_names.ensures ∙ ap (λ (xs : List Action). clause_names xs clause) c.as_slice.ensures in
    let some : Some c.in-Some.pairs ≡ open_by (setting_at d q) side (entry_for d.entries held.at q.w.at side) =
    sym c.in-Some.is ∙ (c.in_ok-open_by.ensures
    ∙ (ap (λ (z : Setting). open_by z side (entry_for d.entries held.at q.w.at side)) c.path_setting-s.ensures.seen)) in
    spare_opened c.add_spare.result c.args.out.now c.add_spare.new.out d held q c.args.k clause (Some c.in-Some.pairs) (sym names) some
    (subst (Adds c.add_spare.result c.args.out.now c.add_spare.new.out)
    (λ i. spare_drafts (at_case (c.path_origin.ensures i)) (c.path_setting-s.ensures.seen i) held.p.clauses (length held.x.locals)
    c.in-Some.pairs clause) c.add_spare.ensures)
