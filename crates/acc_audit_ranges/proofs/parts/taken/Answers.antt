use Rattle.std.proofs.Common.{refl, sym, ◌∙◌, Some}
use Rattle.acc_audit_ranges.proofs.Tallying.{takes}
use Rattle.acc_audit_ranges.proofs.parts.taken.Goals as goal

pub returns-in-Some : goal.returns-in-Some
returns-in-Some c =
    takes c.args.table c.args.place c.args.parts.now c.remove.new.self (Some c.in-Some.values) c.in-Some.values
    (sym c.remove.ensures.value ∙ c.in-Some.is) (λ q. refl) c.remove.ensures.updates.0
