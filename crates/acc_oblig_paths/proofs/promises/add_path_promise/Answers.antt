use Rattle.std.proofs.Common.{◌≡◌, ◌++◌, List, [], ◌∷◌, refl, ap, sym, ◌∙◌}
use Rattle.std.specs.Prelude.{Some, None, Ok, option_copied, slice_get}
use Rattle.acc_base.specs.declared.forms.Clause.{Clause}
use Rattle.acc_base.specs.declared.sequents.Rule.TheVariants.{Promises}
use Rattle.acc_oblig.specs.Settings.{Setting, last_now}
use Rattle.acc_oblig.specs.PathPromises.{promised}
use Rattle.acc_oblig_clauses.specs.Seen.{seen}
use Rattle.acc_oblig_places.specs.SeenPlaces.{path_place}
use Rattle.acc_oblig_clauses.proofs.Going.{none_added}
use Rattle.acc_oblig_clauses.proofs.PathAdded.{path_added}
use Rattle.acc_oblig_paths.proofs.Kept.{setting_at}
use Rattle.acc_oblig_paths.proofs.Promised.{got_at, promise_added}
use Rattle.acc_oblig_paths.proofs.promises.add_path_promise.Goals as goal

pub returns-in-None : goal.returns-in-None
returns-in-None c =
    let q = path_place c.args.q.now in
    let k = c.args.k in
    let looked : option_copied c.get.result ≡ slice_get c.promised.result.now k =
    got_at c.promised.result.now k c.get.result c.get.ensures.lookup.0 c.get.ensures.lookup.1 in
    let none : None ≡ slice_get (promised q.x q.path.target) k =
    ap option_copied (sym c.in-None.is) ∙ (looked ∙ ap (λ (xs : List Clause). slice_get xs k) c.promised.ensures) in
    promise_added (Ok tt) c.args.out.now c.args.out.now c.args.d.now k q None none (none_added c.args.out.now)

pub returns-in_ok-names-in-Some : goal.returns-in_ok-names-in-Some
returns-in_ok-names-in-Some c =
    let q = path_place c.args.q.now in
    let d = c.args.d.now in
    let k = c.args.k in
    let own = c.path_setting-s.result in
    let s = setting_at d q in
    let looked : option_copied c.get.result ≡ slice_get c.promised.result.now k =
    got_at c.promised.result.now k c.get.result c.get.ensures.lookup.0 c.get.ensures.lookup.1 in
    let some : Some c.in-Some.c.now ≡ slice_get (promised q.x q.path.target) k =
    ap option_copied (sym c.in-Some.is) ∙ (looked ∙ ap (λ (xs : List Clause). slice_get xs k) c.promised.ensures) in
    let names : c.in_ok-names-in-Some.names ≡ last_now s ++ s.locals ∷ [] =
    c.in_ok-names-in-Some.ensures ∙ ap (λ (z : Setting). last_now z ++ z.locals ∷ []) c.path_setting-s.ensures.seen in
    promise_added c.add_path_clause.result c.args.out.now c.add_path_clause.new.out d k q (Some c.in-Some.c.now) some
    (path_added c.add_path_clause.result c.args.out.now c.add_path_clause.new.out Promises None k q.w s (last_now s ++ s.locals ∷ [])
    c.in-Some.c.now
    c.path_origin.result (seen own) c.in_ok-names-in-Some.names c.in-Some.c.now c.path_origin.ensures c.path_setting-s.ensures.seen names
    refl
    c.add_path_clause.ensures)
