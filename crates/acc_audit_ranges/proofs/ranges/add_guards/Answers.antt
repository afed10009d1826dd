use Rattle.acc_audit_ranges.specs.Ranges.{rel_gives}
use Rattle.acc_audit_ranges.proofs.Adding.{adds_more}
use Rattle.acc_audit_ranges.proofs.ranges.add_guards.Goals as goal

pub loop-guard-preserved : goal.loop-guard-preserved
loop-guard-preserved g c =
    adds_more (λ x q. rel_gives c.args.s.now c.args.variable q x) c.args.guards.now c.loop-guard.guard-index c.guard-item.result c.guard-item.result
    c.args.values.now c.loop-guard.values c.add_rel.new.values c.loop-guard-test.true c.guard-item.is c.loop-guard.invariant c.in_ok-add_rel.ensures
