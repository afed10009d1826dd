use Rattle.std.proofs.Common.{◌≡◌, ℕ, ◌+◌, List, map, drop, sym, subst}
use Rattle.acc_base.specs.declared.forms.Clause.{Clause}
use Rattle.acc_oblig.specs.Drafts.{each_from, each_path}
use Rattle.acc_oblig.specs.Spares.{spare_at, held_drafts}
use Rattle.acc_oblig_places.specs.SeenPlaces.{point_place, path_place}
use Rattle.acc_oblig_places.specs.DesignPlaces.{joined, at_point_place, at_path_place, path_places}
use Rattle.acc_oblig_clauses.proofs.Going.{Going, going_all, going_on, going_off, going_past, each_past}
use Rattle.acc_oblig_paths.proofs.Walks.{paths_each_next}
use Rattle.acc_oblig_paths.proofs.spares.add_point_spares.Goals as goal

pub loop-k-init : goal.loop-k-init
loop-k-init c =
    let d = c.args.d.now in
    let out = c.args.out.now in
    subst (λ (cs : List Clause). Going out out (each_from 0
    (λ (k : ℕ) (x : Clause). each_path d (spare_at d c.args.held.now.at c.args.held.now.ty.now c.args.held.now.point.now k x)) cs)
    (at_point_place (held_drafts d) (point_place c.args.held.now))) (sym c.as_slice-clauses.ensures)
    (going_all out (at_point_place (held_drafts d) (point_place c.args.held.now)))

pub loop-k-preserved : goal.loop-k-preserved
loop-k-preserved c =
    let d = c.args.d.now in
    let ps = c.args.paths.now in
    let clauses = c.as_slice-clauses.result.now in
    let k = c.loop-k.k in
    let x = c.index-clauses-k.result in
    let all : map path_place ps ≡ path_places d = c.requires.all in
    going_on _ _ _ (joined (at_path_place (spare_at d c.args.held.now.at c.args.held.now.ty.now c.args.held.now.point.now k x))
    (map path_place ps))
    (each_from (k + 1) (λ (k : ℕ) (x : Clause). each_path d
    (spare_at d c.args.held.now.at c.args.held.now.ty.now c.args.held.now.point.now k x)) (drop (k + 1) clauses)) _ _
    (paths_each_next d ps all (spare_at d c.args.held.now.at c.args.held.now.ty.now c.args.held.now.point.now) clauses k x
    c.loop-k-test.true c.index-clauses-k.is) c.loop-k.invariant c.in_ok-add_clause_spares.ensures

pub returns-in_err-add_clause_spares : goal.returns-in_err-add_clause_spares
returns-in_err-add_clause_spares c =
    let d = c.args.d.now in
    let ps = c.args.paths.now in
    let clauses = c.as_slice-clauses.result.now in
    let k = c.loop-k.k in
    let x = c.index-clauses-k.result in
    let all : map path_place ps ≡ path_places d = c.requires.all in
    going_off _ _ _ (joined (at_path_place (spare_at d c.args.held.now.at c.args.held.now.ty.now c.args.held.now.point.now k x))
    (map path_place ps))
    (each_from (k + 1) (λ (k : ℕ) (x : Clause). each_path d
    (spare_at d c.args.held.now.at c.args.held.now.ty.now c.args.held.now.point.now k x)) (drop (k + 1) clauses)) _ _ _ _ _
    c.from_residual.ensures.1
    (paths_each_next d ps all (spare_at d c.args.held.now.at c.args.held.now.ty.now c.args.held.now.point.now) clauses k x
    c.loop-k-test.true c.index-clauses-k.is) c.loop-k.invariant c.in_err-add_clause_spares.ensures

pub returns : goal.returns
returns c =
    let d = c.args.d.now in
    going_past _ _ _ _ (each_past (λ (k : ℕ) (x : Clause). each_path d
    (spare_at d c.args.held.now.at c.args.held.now.ty.now c.args.held.now.point.now k x)) c.as_slice-clauses.result.now c.loop-k.k
    c.loop-k-test.false) c.loop-k.invariant
