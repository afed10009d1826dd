use Rattle.std.proofs.Common.{arith, get_or, ap, ◌∙◌}
use Rattle.std.specs.Int.{w128}
use Rattle.std.proofs.lemmas.Int.{ints, to_z-of_z}
use Rattle.acc_terms.specs.Parts.{constant_in}
use Rattle.acc_terms.proofs.Bounds.{constant_small}
use Rattle.acc_terms.proofs.Totals.{constant_more}
use Rattle.acc_terms.proofs.collecting.constant.Goals as goal

pub loop-part-preserved : goal.loop-part-preserved
loop-part-preserved g c =
    let so_far = c.loop-part.invariant.so_far in
    let bound = c.loop-part.invariant.bound in
    let part = c.part-item.result in
    let i = c.loop-part.part-index in
    let this = get_or c.args.parts.now i part in
    let one = c.constant_in-sum.ensures ∙ ap constant_in c.part-item.is in
    let small = constant_small this.of this.number (c.requires i part c.loop-part-test.true) in
    let same = to_z-of_z w128 c.constant_in-sum.result (record { sfits = c.constant_in-sum.type_inv }) in
    let more = constant_more c.args.parts.now i part c.loop-part-test.true in
    record { so_far = omega (arith, ints); bound = omega (arith, ints) }
