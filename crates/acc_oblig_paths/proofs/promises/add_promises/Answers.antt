use Rattle.std.proofs.Common.{◌≡◌, ◌+◌, ◌-◌, map, ap, ◌∙◌}
use Rattle.acc_base.specs.declared.bounds.TheConstants.{MOST_CLAUSES}
use Rattle.acc_oblig.specs.Drafts.{each_path, each_number}
use Rattle.acc_oblig.specs.PathPromises.{promise_at}
use Rattle.acc_oblig_places.specs.SeenPlaces.{path_place}
use Rattle.acc_oblig_places.specs.DesignPlaces.{joined, at_path_place, path_places}
use Rattle.acc_oblig_clauses.proofs.Going.{going_all, going_on, going_off, going_past, number_past}
use Rattle.acc_oblig_places.proofs.Small.{design_small}
use Rattle.acc_oblig_paths.proofs.Walks.{paths_number_next}
use Rattle.acc_oblig_paths.proofs.promises.add_promises.Goals as goal

pub add_number_promises-requires-clause-design : goal.add_number_promises-requires-clause-design
add_number_promises-requires-clause-design c = design_small c.args.d.now c.requires

pub loop-k-init : goal.loop-k-init
loop-k-init c = going_all _ _

pub loop-k-preserved : goal.loop-k-preserved
loop-k-preserved c =
    let d = c.args.d.now in
    let ps = c.as_slice.result.now in
    let k = c.loop-k.k in
    let all : map path_place ps ≡ path_places d = ap (map path_place) c.as_slice.ensures.value ∙ c.in_ok-paths.ensures.value in
    going_on _ _ _ (joined (at_path_place (promise_at d k)) (map path_place ps))
    (each_number (k + 1) (MOST_CLAUSES - (k + 1)) (λ k. each_path d (promise_at d k))) _ _
    (paths_number_next d ps all (promise_at d) MOST_CLAUSES k c.loop-k-test.true) c.loop-k.invariant c.in_ok-add_number_promises.ensures

pub returns-in_err-add_number_promises : goal.returns-in_err-add_number_promises
returns-in_err-add_number_promises c =
    let d = c.args.d.now in
    let ps = c.as_slice.result.now in
    let k = c.loop-k.k in
    let all : map path_place ps ≡ path_places d = ap (map path_place) c.as_slice.ensures.value ∙ c.in_ok-paths.ensures.value in
    going_off _ _ _ (joined (at_path_place (promise_at d k)) (map path_place ps))
    (each_number (k + 1) (MOST_CLAUSES - (k + 1)) (λ k. each_path d (promise_at d k))) _ _ _ _ _
    c.from_residual-in_err-add_number_promises.ensures.1
    (paths_number_next d ps all (promise_at d) MOST_CLAUSES k c.loop-k-test.true) c.loop-k.invariant c.in_err-add_number_promises.ensures

pub returns : goal.returns
returns c =
    let d = c.args.d.now in
    going_past _ _ _ _ (number_past (λ k. each_path d (promise_at d k)) MOST_CLAUSES c.loop-k.k c.loop-k-test.false) c.loop-k.invariant
