use Rattle.acc_audit_ranges.specs.Ranges.{term_gives}
use Rattle.acc_audit_ranges.proofs.Adding.{adds_more}
use Rattle.acc_audit_ranges.proofs.ranges.add_terms.Goals as goal

pub loop-term-preserved : goal.loop-term-preserved
loop-term-preserved g c =
    adds_more (λ x q. term_gives c.args.s.now c.args.variable q x) c.args.terms.now c.loop-term.term-index c.term-item.result c.term-item.result
    c.args.values.now c.loop-term.values c.add_term.new.values c.loop-term-test.true c.term-item.is c.loop-term.invariant c.in_ok-add_term.ensures
