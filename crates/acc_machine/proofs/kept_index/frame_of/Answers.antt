use Rattle.std.proofs.Common.{arith}
use Rattle.std.specs.Prelude.{◌≢◌}
use Rattle.acc_base.specs.declared.machines.Frame.{Frame}
use Rattle.acc_base.proofs.Items.{got}
use Rattle.acc_lift.proofs.Transactions.{got_within}
use Rattle.acc_machine.proofs.Stucks.{more}
use Rattle.acc_machine.proofs.kept_index.frame_of.Goals as goal

pub returns-then-f-t : goal.returns-then-f-t
returns-then-f-t c =
    ((c.loop-i.i, got c.args.frames.now c.loop-i.i c.index-frames-i.result c.loop-i-test.true c.index-frames-i.is), c.if-f-t.true)

pub loop-i-preserved : goal.loop-i-preserved
loop-i-preserved c =
    more (λ (f : Frame). f.t ≢ c.args.t) c.args.frames.now c.loop-i.i c.index-frames-i.result
    (got c.args.frames.now c.loop-i.i c.index-frames-i.result c.loop-i-test.true c.index-frames-i.is) c.loop-i.invariant c.if-f-t.false

pub returns : goal.returns
returns c = λ g is.
    let within = got_within c.args.frames.now is.0 g is.1 in
    let all = c.loop-i-test.false in
    c.loop-i.invariant is.0 g (omega (arith, within, all)) is.1
