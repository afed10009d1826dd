use Rattle.std.proofs.Common.{◌≡◌, ◌++◌, List, [], ◌∷◌, refl, ap, sym, ◌∙◌}
use Rattle.std.specs.Prelude.{Some, None}
use Rattle.acc_base.specs.declared.steps.Action.{Action}
use Rattle.acc_base.specs.declared.sequents.Rule.TheVariants.{There}
use Rattle.acc_oblig.specs.Settings.{Setting, last_now}
use Rattle.acc_oblig_clauses.specs.Seen.{seen}
use Rattle.acc_oblig_places.specs.SeenPlaces.{path_place}
use Rattle.acc_oblig_clauses.proofs.PathAdded.{path_added}
use Rattle.acc_oblig_paths.specs.Rows.{needed_at}
use Rattle.acc_oblig_paths.proofs.Rows.{before, row_added}
use Rattle.acc_oblig_paths.proofs.there.add_path_row.Goals as goal

pub returns-in_ok-names-in-Some : goal.returns-in_ok-names-in-Some
returns-in_ok-names-in-Some c =
    let q = path_place c.args.q.now in
    let d = c.args.d.now in
    let k = c.args.k in
    let own = c.setting_before-s.result in
    let s = before d k q in
    let some : Some c.in-Some.there ≡ needed_at q.path.actions k =
    sym c.in-Some.is ∙ (c.in_ok-needed_at.ensures ∙ ap (λ (xs : List Action). needed_at xs k) c.as_slice.ensures) in
    let names : c.in_ok-names-in-Some.names ≡ last_now s ++ s.locals ∷ [] =
    c.in_ok-names-in-Some.ensures ∙ ap (λ (z : Setting). last_now z ++ z.locals ∷ []) c.setting_before-s.ensures.seen in
    row_added c.add_path_clause.result c.args.out.now c.add_path_clause.new.out d k q (Some c.in-Some.there) some
    (path_added c.add_path_clause.result c.args.out.now c.add_path_clause.new.out There None k q.w s (last_now s ++ s.locals ∷ [])
    c.in-Some.there
    c.path_origin.result (seen own) c.in_ok-names-in-Some.names c.in-Some.there c.path_origin.ensures c.setting_before-s.ensures.seen names
    refl
    c.add_path_clause.ensures)
