use Rattle.std.proofs.Common.{ℕ, List}
use Rattle.acc_oblig.specs.Drafts.{each}
use Rattle.acc_advise.specs.Candidates.{pair_of, pairs_in}
use Rattle.acc_advise.proofs.Pairing.{made_on, made_all}
use Rattle.acc_advise.proofs.candidates.pairs_in.Goals as goal

pub loop-i-preserved : goal.loop-i-preserved
loop-i-preserved c =
    let types = c.args.types.now in
    let q = c.args.question in
    let step = c.args.step.now in
    made_on (λ (i : ℕ) (name : List ℕ). each (pair_of types q i name) step) c.args.held.now c.loop-i.i c.index-held-i.result c.loop-i.out
    c.add_pairs.new.out (pairs_in types q c.args.held.now step) c.loop-i-test.true c.index-held-i.is c.in_ok-add_pairs.ensures
    c.loop-i.invariant

pub returns : goal.returns
returns c =
    let types = c.args.types.now in
    let q = c.args.question in
    let step = c.args.step.now in
    made_all (λ (i : ℕ) (name : List ℕ). each (pair_of types q i name) step) c.args.held.now c.loop-i.i c.loop-i.out
    (pairs_in types q c.args.held.now step) c.loop-i-test.false c.loop-i.invariant
