use Rattle.std.proofs.Common.{◌+◌, subst, sym}
use Rattle.acc_audit_complaints.proofs.Firsts.{AreRangesOf, one_range_more}
use Rattle.acc_audit_complaints.proofs.complaints.ranges_of.Goals as goal

pub loop-i-preserved : goal.loop-i-preserved
loop-i-preserved g c =
    let db = c.args.s.now in
    let i = c.loop-i.i in
    subst (AreRangesOf db c.args.outside.now c.args.clause.now (i + 1)) (sym c.in_ok-push.ensures.items)
    (one_range_more db c.args.outside.now c.args.clause.now i c.own_variable.result c.loop-i.ranges.items c.in_ok-own.own c.loop-i.invariant
    c.own_variable.ensures c.in_ok-own.ensures)
