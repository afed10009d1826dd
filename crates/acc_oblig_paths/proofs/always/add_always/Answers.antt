use Rattle.std.proofs.Common.{◌≡◌, ℕ, ◌+◌, List, map, drop, ap, sym, subst, ◌∙◌}
use Rattle.acc_base.specs.declared.forms.Clause.{Clause}
use Rattle.acc_oblig.specs.Drafts.{each_from, each_path}
use Rattle.acc_oblig.specs.PathPromises.{always_at, always_drafts}
use Rattle.acc_oblig_places.specs.SeenPlaces.{path_place}
use Rattle.acc_oblig_places.specs.DesignPlaces.{joined, at_path_place, path_places}
use Rattle.acc_oblig_clauses.proofs.Going.{Going, going_all, going_on, going_off, going_past, each_past}
use Rattle.acc_oblig_places.proofs.Small.{design_small}
use Rattle.acc_oblig_paths.proofs.Walks.{paths_each_next}
use Rattle.acc_oblig_paths.proofs.always.add_always.Goals as goal

pub add_clause_always-requires-clause-design : goal.add_clause_always-requires-clause-design
add_clause_always-requires-clause-design c = design_small c.args.d.now c.requires

pub loop-k-init : goal.loop-k-init
loop-k-init c =
    let d = c.args.d.now in
    let out = c.args.out.now in
    subst (λ (cs : List Clause). Going out out (each_from 0 (λ (k : ℕ) (x : Clause). each_path d (always_at d k x)) cs) (always_drafts d))
    (sym c.as_slice-clauses.ensures) (going_all out (always_drafts d))

pub loop-k-preserved : goal.loop-k-preserved
loop-k-preserved c =
    let d = c.args.d.now in
    let ps = c.as_slice.result.now in
    let clauses = c.as_slice-clauses.result.now in
    let k = c.loop-k.k in
    let x = c.index-clauses-k.result in
    let all : map path_place ps ≡ path_places d = ap (map path_place) c.as_slice.ensures.value ∙ c.in_ok-paths.ensures.value in
    going_on _ _ _ (joined (at_path_place (always_at d k x)) (map path_place ps))
    (each_from (k + 1) (λ (k : ℕ) (x : Clause). each_path d (always_at d k x)) (drop (k + 1) clauses)) _ _
    (paths_each_next d ps all (always_at d) clauses k x c.loop-k-test.true c.index-clauses-k.is) c.loop-k.invariant
    c.in_ok-add_clause_always.ensures

pub returns-in_err-add_clause_always : goal.returns-in_err-add_clause_always
returns-in_err-add_clause_always c =
    let d = c.args.d.now in
    let ps = c.as_slice.result.now in
    let clauses = c.as_slice-clauses.result.now in
    let k = c.loop-k.k in
    let x = c.index-clauses-k.result in
    let all : map path_place ps ≡ path_places d = ap (map path_place) c.as_slice.ensures.value ∙ c.in_ok-paths.ensures.value in
    going_off _ _ _ (joined (at_path_place (always_at d k x)) (map path_place ps))
    (each_from (k + 1) (λ (k : ℕ) (x : Clause). each_path d (always_at d k x)) (drop (k + 1) clauses)) _ _ _ _ _
    c.from_residual-in_err-add_clause_always.ensures.1
    (paths_each_next d ps all (always_at d) clauses k x c.loop-k-test.true c.index-clauses-k.is) c.loop-k.invariant
    c.in_err-add_clause_always.ensures

pub returns : goal.returns
returns c =
    let d = c.args.d.now in
    going_past _ _ _ _ (each_past (λ (k : ℕ) (x : Clause). each_path d (always_at d k x)) c.as_slice-clauses.result.now c.loop-k.k
    c.loop-k-test.false) c.loop-k.invariant
