use Rattle.std.proofs.Common.{◌∙◌, ◌≤◌, length, arith}
use Rattle.acc_audit_complaints.proofs.Counting.{counted_more, few_counted}
use Rattle.acc_audit_complaints.proofs.counts.are_few.Goals as goal

pub loop-range-preserved : goal.loop-range-preserved
loop-range-preserved c = record {
  few = c.times-count.ensures.few;
  whole = counted_more c.args.ranges.now c.loop-range.range-index c.range-item.result c.loop-range-test.true c.range-item.is
      c.loop-range.count c.times-count.result c.times-count.ensures.product ∙ c.loop-range.invariant.whole;
}

pub returns : goal.returns
returns c =
    let past : length c.args.ranges.now ≤ c.loop-range.range-index = omega arith in
    few_counted c.args.ranges.now c.loop-range.range-index past c.loop-range.count c.loop-range.invariant.few c.loop-range.invariant.whole
