use Rattle.acc_prover_searched.specs.Searches.{course}
use Rattle.acc_prover.proofs.Searched.{kind_told, near_told, proof_told, truth_told, leaf_told}
use Rattle.acc_prover.proofs.searching.search.Goals as goal

pub found-requires : goal.found-requires
found-requires c = near_told c.args.design.now c.args.sequent.now c.args.hints.now c.course-end.result c.course-end.ensures

pub returns : goal.returns
returns c =
    let d = c.args.design.now in
    let q = c.args.sequent.now in
    let hints = c.args.hints.now in
    let end = c.course-end.result in
    let result = c.found.result in
    let kind = kind_told d q result end (course d q hints) c.found.ensures.kind c.course-end.ensures in
    let proof = proof_told d q hints result end c.found.ensures.kind c.found.ensures.proof c.course-end.ensures in
    record {
      kind = kind;
      accepted = proof;
      bounds = c.found.ensures.bounds;
      law = truth_told d q result proof;
      leaf = leaf_told d q hints result kind;
    }
