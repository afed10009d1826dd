use Rattle.std.proofs.Common.{◌≡◌, true, List, [], refl, ap, ◌∙◌}
use Rattle.std.specs.Prelude.{None}
use Rattle.acc_base.specs.declared.steps.Action.{Action}
use Rattle.acc_base.specs.declared.sequents.Rule.TheVariants.{Always}
use Rattle.acc_oblig.specs.PathPromises.{clause_names}
use Rattle.acc_oblig_clauses.specs.Seen.{seen}
use Rattle.acc_oblig_places.specs.SeenPlaces.{path_place}
use Rattle.acc_oblig_clauses.proofs.PathAdded.{path_added}
use Rattle.acc_oblig_paths.proofs.Kept.{setting_at, always_added}
use Rattle.acc_oblig_paths.proofs.always.add_path_always.Goals as goal

pub returns : goal.returns
returns c =
    let q = path_place c.args.q.now in
    let d = c.args.d.now in
    let clause = c.args.c.now in
    let names : true ≡ clause_names q.path.actions clause =
    c.if-not-clause_names.ensures ∙ ap (λ (xs : List Action). clause_names xs clause) c.as_slice.ensures in
    always_added c.add_path_clause-2.result c.args.out.now c.add_path_clause-2.new.out d q c.args.k clause true names
    (path_added c.add_path_clause-2.result c.args.out.now c.add_path_clause-2.new.out Always None c.args.k q.w (setting_at d q) [] clause
    c.path_origin.result (seen c.path_setting-s.result) c.new.result clause c.path_origin.ensures c.path_setting-s.ensures.seen
    c.new.ensures
    refl c.add_path_clause-2.ensures)
