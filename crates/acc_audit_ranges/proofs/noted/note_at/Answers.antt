use Rattle.std.proofs.Common.{sym, ◌∙◌, subst}
use Rattle.acc_audit_ranges.specs.declared.parts.Way.TheVariants.{In}
use Rattle.acc_audit_ranges.specs.Parts.{Counts, has_at}
use Rattle.acc_audit_ranges.proofs.Tallying.{came}
use Rattle.acc_audit_ranges.proofs.Giving.{grows_by, only_by}
use Rattle.acc_audit_ranges.proofs.noted.note_at.Goals as goal

pub returns-clause-grows : goal.returns-clause-grows
returns-clause-grows c = grows_by c.args.noted.now.places c.insert.new.self c.args.place c.in_ok-insert.ensures.updates

pub returns-clause-only : goal.returns-clause-only
returns-clause-only c = only_by c.args.noted.now.places c.insert.new.self c.args.place c.in_ok-insert.ensures.updates

pub returns-clause-counted : goal.returns-clause-counted
returns-clause-counted c =
    let parts = c.args.noted.now.parts in
    let after = c.count_key.new.parts in
    let p = c.args.place in
    came parts after c.args.noted.now.places c.insert.new.self p (sym c.contains.ensures ∙ c.if-contains.false) c.in_ok-insert.ensures.keys
    (subst (λ k. Counts In (λ t j q. has_at t j q (p.0, k)) parts after) c.as_slice.ensures c.in_ok-count_key.ensures)
