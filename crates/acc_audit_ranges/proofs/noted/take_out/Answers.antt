use Rattle.std.proofs.Common.{sym, ◌∙◌, subst}
use Rattle.acc_audit_ranges.specs.declared.parts.Way.TheVariants.{Out}
use Rattle.acc_audit_ranges.specs.Parts.{Counts, has_at}
use Rattle.acc_audit_ranges.proofs.Tallying.{went}
use Rattle.acc_audit_ranges.proofs.Giving.{on_ok}
use Rattle.acc_audit_ranges.proofs.noted.take_out.Goals as goal

pub returns-then-remove-clause-counted : goal.returns-then-remove-clause-counted
returns-then-remove-clause-counted c =
    let parts = c.args.noted.now.parts in
    let after = c.count_key.new.parts in
    let p = c.args.place.now in
    on_ok _ _
    (λ counts.
    went parts after c.args.noted.now.places c.remove.new.self p (sym c.remove.ensures.test ∙ c.if-remove.true) c.remove.ensures.keys
    (subst (λ k. Counts Out (λ t j q. has_at t j q (p.0, k)) parts after) c.as_slice.ensures counts))
    c.count_key.result c.count_key.ensures
