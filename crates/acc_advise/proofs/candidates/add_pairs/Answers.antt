use Rattle.std.proofs.Common.{◌++◌}
use Rattle.acc_oblig.specs.Drafts.{each}
use Rattle.acc_advise.specs.Candidates.{pair_of}
use Rattle.acc_advise.proofs.Pairing.{made_on, made_all}
use Rattle.acc_advise.proofs.candidates.add_pairs.Goals as goal

pub loop-j-preserved : goal.loop-j-preserved
loop-j-preserved c =
    let make = pair_of c.args.types.now c.args.question c.args.i c.args.name.now in
    made_on make c.args.step.now c.loop-j.j c.index-step-j.result c.loop-j.out c.add_pair.new.out (c.args.out.now ++ each make c.args.step.now)
    c.loop-j-test.true c.index-step-j.is c.in_ok-add_pair.ensures c.loop-j.invariant

pub returns : goal.returns
returns c =
    let make = pair_of c.args.types.now c.args.question c.args.i c.args.name.now in
    made_all make c.args.step.now c.loop-j.j c.loop-j.out (c.args.out.now ++ each make c.args.step.now) c.loop-j-test.false c.loop-j.invariant
