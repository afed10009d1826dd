use Rattle.std.proofs.Common.{sym, subst}
use Rattle.acc_table.specs.Closures.{IsMarked}
use Rattle.acc_table.proofs.Reaching.{begun, done_none, done_some, all_done}
use Rattle.acc_table.proofs.closures.undo_points.Goals as goal

pub loop-i-init : goal.loop-i-init
loop-i-init c = begun c.args.d.now c.args.ty c.args.p c.requires.start

pub loop-i-preserved-in-Some-point : goal.loop-i-preserved-in-Some-point
loop-i-preserved-in-Some-point c =
    let point = c.in-Some-point.point.now in
    let reached = c.loop-i.reached in
    let after = c.mark_targets.new.reached in
    let marked = subst (λ paths. IsMarked paths reached after) c.as_slice.ensures c.mark_targets.ensures in
    done_some c.args.d.now c.args.ty c.args.p reached c.loop-i.done c.loop-i.invariant c.requires.targets c.in-Some.i
    c.in-Some.ensures.1 point after (sym c.in-Some-point.ensures) c.mark_targets.array_long marked

pub loop-i-preserved : goal.loop-i-preserved
loop-i-preserved c =
    done_none c.args.d.now c.args.ty c.args.p c.loop-i.reached c.loop-i.done c.loop-i.invariant c.requires.targets
    c.in-Some.i c.in-Some.ensures.1 (sym c.in_default-point.ensures)

pub returns : goal.returns
returns c = all_done c.args.d.now c.args.ty c.args.p c.loop-i.reached c.loop-i.done c.loop-i.invariant c.in_default.ensures
