use Rattle.std.proofs.Common.{◌≡◌, Some, sym, ap, ◌∙◌, subst, arith}
use Rattle.acc_base.specs.Machine.{unfinished, after_event}
use Rattle.acc_plain.specs.Reached.{IsReached}
use Rattle.acc_plain.specs.Taken.{IsTaken}
use Rattle.acc_audit.specs.Since.{AreOf, IsKnown, known_at, moved_by}
use Rattle.acc_audit.proofs.Knowing.{known_behind}
use Rattle.acc_audit.proofs.steps.take_event.Goals as goal

pub complaint_now-requires-clause-known : goal.complaint_now-requires-clause-known
complaint_now-requires-clause-known g c =
    let d = c.args.d.now in
    let w = c.args.machine.now.world in
    let after = c.take.new.self.world in
    let e = c.args.event.now in
    let writes = c.as_slice.result in
    let many = c.in_ok-take.ensures.count in
    let few = c.requires.few in
    let leads : after_event d w e ≡ Some after =
    subst (λ x. after_event x w e ≡ Some after) c.requires.design
    (subst (IsTaken c.args.machine.now.design w after e) c.if-not-branch.false c.in_ok-take.ensures.ok) in
    let are : AreOf d w e writes.now = subst (AreOf d w e) (sym c.as_slice.ensures) c.in_ok-writes.ensures in
    let reached : IsReached d after =
    subst (λ x. IsReached x after) (c.in_ok-take.ensures.design ∙ c.requires.design) c.events-run.ensures.run in
    subst (IsKnown d after.rows (unfinished after))
    (sym (c.known_at-known.ensures ∙ ap (λ fs. known_at c.args.place (moved_by e fs) writes) c.unfinished.ensures))
    (known_behind d w after e writes are leads reached (omega (arith, many, few)) c.args.place c.requires.clear)
