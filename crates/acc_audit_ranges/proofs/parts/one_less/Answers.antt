use Rattle.std.proofs.Common.{◌≡◌, cond, None, ℤ, ap, ◌∙◌, subst}
use Rattle.std.specs.Ordering.{int_cmp}
use Rattle.std.specs.BTreeMap.{get}
use Rattle.std.specs.Int.{w64}
use Rattle.std.proofs.lemmas.Int.{to_z-of_z}
use Rattle.acc_audit_ranges.specs.Ranges.{same}
use Rattle.acc_audit_ranges.specs.Parts.{number}
use Rattle.acc_audit_ranges.proofs.Tallying.{counts_last}
use Rattle.acc_audit_ranges.proofs.parts.one_less.Goals as goal

pub returns-else-n-gt1 : goal.returns-else-n-gt1
returns-else-n-gt1 c =
    let old = c.args.values.now in
    let new = c.remove.new.self in
    let n = c.number-n.result in
    let is = to_z-of_z w64 c.args.x c.ranges.x in
    counts_last c.args.x n old new (c.number-n.ensures ∙ ap (number old) is) c.if-n-gt1.false
    (subst (λ z. (q : ℤ) → get int_cmp new q ≡ cond (same z q) None (get int_cmp old q)) is c.remove.ensures.updates.0)
