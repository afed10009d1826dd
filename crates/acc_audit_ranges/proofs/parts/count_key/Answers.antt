use Rattle.std.proofs.Common.{rules, refl, subst, pos, get_or}
use Rattle.std.specs.Prelude.{FitsSigned}
use Rattle.std.specs.Int.{w64}
use Rattle.std.proofs.lemmas.Int.{to_z-of_z}
use Rattle.std.proofs.lemmas.List.{take_all}
use Rattle.acc_audit_ranges.specs.Parts.{Counts, is_there, has_at}
use Rattle.acc_audit_ranges.proofs.Tallying.{none_counted, one_counted}
use Rattle.acc_audit_ranges.proofs.parts.count_key.Goals as goal

pub loop-place-init : goal.loop-place-init
loop-place-init c = none_counted c.args.way c.args.table c.args.key.now c.args.parts.now

pub loop-place-preserved : goal.loop-place-preserved
loop-place-preserved c =
    let i = c.loop-place.place in
    let x = get_or c.args.key.now i (pos 0) in
    let fits : FitsSigned w64 x = search rules in
    one_counted c.args.way c.args.table c.args.key.now i x (pos 0) c.args.parts.now c.loop-place.parts c.count_at.new.parts
    c.loop-place-test.true refl c.loop-place.invariant
    (subst (λ z. Counts c.args.way (is_there c.args.table i z) c.loop-place.parts c.count_at.new.parts) (to_z-of_z w64 x fits)
    c.in_ok-count_at.ensures)

pub returns : goal.returns
returns c =
    subst (λ l. Counts c.args.way (λ t j q. has_at t j q (c.args.table, l)) c.args.parts.now c.loop-place.parts)
    (take_all c.loop-place.place c.args.key.now c.loop-place-test.false) c.loop-place.invariant
