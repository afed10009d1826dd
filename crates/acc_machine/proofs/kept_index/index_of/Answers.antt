use Rattle.std.proofs.Common.{◌≡◌, ◌+◌, suc, [], sym, subst, arith, take}
use Rattle.acc_base.proofs.Items.{got, at_item}
use Rattle.acc_base.specs.declared.machines.Frame.{Frame}
use Rattle.acc_table.specs.Entries.{IsPointOf}
use Rattle.acc_lock_index.specs.Indexed.{StandsFor}
use Rattle.acc_machine.proofs.Following.{stands_none, next_put, take_all}
use Rattle.acc_machine.proofs.kept_index.index_of.Goals as goal

pub loop-i-init : goal.loop-i-init
loop-i-init c = subst (StandsFor c.args.d.now []) (sym c.new-index.ensures.empty) (stands_none c.args.d.now)

pub put-requires-clause-point : goal.put-requires-clause-point
put-requires-clause-point c =
    at_item (λ (h : Frame). IsPointOf c.args.d.now h.ty h.point) c.args.frames.now c.loop-i.i c.index-frames-i.result c.requires.points
    c.loop-i-test.true c.index-frames-i.is

pub loop-i-preserved : goal.loop-i-preserved
loop-i-preserved c =
    let fs = c.args.frames.now in
    let i = c.loop-i.i in
    let one : suc i ≡ i + 1 = omega arith in
    subst (λ n. StandsFor c.args.d.now (take n fs) c.put.new.index.standings) one
    (c.in_ok-put.ensures (take i fs) (take (suc i) fs) c.loop-i.invariant (next_put fs i c.index-frames-i.result c.requires.apart
    (got fs i c.index-frames-i.result c.loop-i-test.true c.index-frames-i.is)))

pub returns : goal.returns
returns c =
    subst (λ fs. StandsFor c.args.d.now fs c.loop-i.index.standings) (take_all c.args.frames.now c.loop-i.i c.loop-i-test.false)
    c.loop-i.invariant
