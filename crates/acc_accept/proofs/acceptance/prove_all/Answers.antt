use Rattle.acc_base.proofs.Items.{got}
use Rattle.acc_accept.proofs.Lacking.{one_more, all_of_them}
use Rattle.acc_accept.proofs.acceptance.prove_all.Goals as goal

pub loop-place-preserved : goal.loop-place-preserved
loop-place-preserved c =
    one_more c.args.d.now c.args.sequents.now c.args.proofs.now c.loop-place.place c.index-sequents-place.result c.loop-place.invariant
    (got c.args.sequents.now c.loop-place.place c.index-sequents-place.result c.loop-place-test.true c.index-sequents-place.is)
    c.in_ok-prove_at.ensures

pub returns : goal.returns
returns c =
    all_of_them c.args.d.now c.args.sequents.now c.args.proofs.now c.loop-place.place c.loop-place.invariant c.loop-place-test.false
