use Rattle.std.proofs.Common.{subst}
use Rattle.std.specs.Int.{w64}
use Rattle.std.proofs.lemmas.Int.{to_z-of_z}
use Rattle.acc_audit_ranges.specs.Parts.{CountsIn}
use Rattle.acc_audit_ranges.proofs.Tallying.{counts_at}
use Rattle.acc_audit_ranges.proofs.parts.count_at.Goals as goal

pub returns : goal.returns
returns c =
    counts_at c.args.way c.args.table c.args.place c.args.x c.args.parts.now c.taken-values.new.parts c.insert.new.self c.taken-values.result
    c.count.new.values c.taken-values.ensures
    (subst (λ z. CountsIn c.args.way z c.taken-values.result c.count.new.values) (to_z-of_z w64 c.args.x c.ranges.x) c.in_ok-count.ensures)
    c.in_ok-insert.ensures.updates.0
