use Rattle.std.proofs.Common.{get_or}
use Rattle.acc_advise.proofs.Growing.{start_on, steps_on, stepped_small, passed, few_at}
use Rattle.acc_advise.proofs.passes.first_pass.Goals as goal

pub loop-pair-init : goal.loop-pair-init
loop-pair-init g c = record {
  few = c.requires.set;
  passed = start_on c.args.case.now c.args.grown.now c.new-left.result c.new-left.ensures;
}

pub try_pair-requires-clause-one : goal.try_pair-requires-clause-one
try_pair-requires-clause-one g c =
    few_at c.args.candidates.now c.loop-pair.pair-index (0, 0) c.loop-pair-test.true c.requires.others

pub loop-pair-preserved : goal.loop-pair-preserved
loop-pair-preserved g c =
    let case = c.args.case.now in
    let all = c.args.candidates.now in
    let now = c.loop-pair.grown in
    let new = c.try_pair.new.grown in
    let i = c.loop-pair.pair-index in
    let before = c.loop-pair.invariant in
    let step = c.in_ok-try_pair.ensures in
    record {
      few =
          stepped_small case now new c.loop-pair.left c.try_pair.new.left (get_or all i (0, 0)) step before.few
          (few_at all i (0, 0) c.loop-pair-test.true c.requires.others);
      passed =
          steps_on case c.args.grown.now all now new c.loop-pair.left c.try_pair.new.left i (0, 0) c.loop-pair-test.true step before.passed;
    }

pub returns : goal.returns
returns g c =
    passed c.args.case.now c.args.grown.now c.args.candidates.now c.loop-pair.grown c.loop-pair.left c.loop-pair.pair-index
    c.loop-pair-test.false c.loop-pair.invariant.passed
