use Rattle.std.proofs.Common.{◌∙◌, ap}
use Rattle.acc_terms.specs.Sums.{with_part}
use Rattle.acc_terms.proofs.Bounds.{bound_more}
use Rattle.acc_terms.proofs.Totals.{totals_more}
use Rattle.acc_terms.proofs.collecting.collected.Goals as goal

pub loop-part-preserved : goal.loop-part-preserved
loop-part-preserved g c =
    let E = g.K.PartialEq.eq in
    let parts = c.args.parts.now in
    let i = c.loop-part.part-index in
    let part = c.part-item.result in
    let within = c.loop-part-test.true in
    let before = c.loop-part.invariant in
    let added = c.in_ok-add_part.ensures in
    record {
      so_far = added ∙ (ap (with_part E part) before.so_far ∙ totals_more E g.met.K.Exact.eq_is parts i part within c.part-item.is);
      bound = bound_more E parts i part c.loop-part.sums c.add_part.new.sums c.requires.small within c.part-item.is added before.bound;
    }
