use Rattle.std.proofs.Common.{[], ◌∷◌, ◌++◌, length, ap, ◌∙◌}
use Rattle.std.specs.Prelude.{ℕ, List, None}
use Rattle.acc_base.specs.declared.sequents.Rule.TheVariants.{Clears}
use Rattle.acc_oblig.specs.Settings.{Setting, last_now}
use Rattle.acc_oblig.specs.Drafts.{setting_of}
use Rattle.acc_oblig.specs.PointRules.{none_of}
use Rattle.acc_oblig_clauses.specs.Seen.{seen}
use Rattle.acc_oblig_places.specs.SeenPlaces.{path_place}
use Rattle.acc_oblig_clauses.proofs.PathAdded.{path_added}
use Rattle.acc_oblig_points.proofs.clears.add_clear.Goals as goal

pub returns : goal.returns
returns c =
    let q = path_place c.args.q.now in
    let t = c.args.t in
    let s : Setting = setting_of c.args.d.now q.x q.p q.step q.w.path q.path in
    let is_setting = c.path_setting-s.ensures.seen in
    path_added c.add_path_clause.result c.args.out.now c.add_path_clause.new.out Clears None t q.w s (last_now s ++ length q.x.locals ∷ [])
    (none_of (length q.x.locals) t c.args.width) c.path_origin.result (seen c.path_setting-s.result) c.in_ok-names.names c.in_ok-clear.clear
    c.path_origin.ensures is_setting
    (c.in_ok-names.ensures ∙ (ap (λ (ns : List ℕ). ns ++ c.path_setting-s.result.locals ∷ []) c.in_ok-last_names.ensures
    ∙ ap (λ (z : Setting). last_now z ++ z.locals ∷ []) is_setting))
    (c.in_ok-clear.ensures ∙ ap (λ (z : Setting). none_of z.locals t c.args.width) is_setting) c.add_path_clause.ensures
