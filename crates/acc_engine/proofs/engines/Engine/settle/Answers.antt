use Rattle.std.proofs.Common.{◌≡◌, List, ℕ, false, Some, sym, ◌∙◌, ap, subst}
use Rattle.std.proofs.lemmas.Result.{IfOk-at_ok}
use Rattle.acc_io.specs.Causes.{Rose}
use Rattle.acc_disk.specs.Crashes.{Only, IsCalm}
use Rattle.acc_disk.specs.Moments.{AtAnyMoment}
use Rattle.acc_wal.specs.Settling.{IsSettled}
use Rattle.acc_wal.proofs.Moments.{weaker}
use Rattle.acc_engine.specs.Keeping.{Journalled}
use Rattle.acc_engine.specs.Ready.{IsReady}
use Rattle.acc_engine.specs.Sealing.{SealedDurableOrAll}
use Rattle.acc_engine.specs.Standing.{CountsDurableOrAll}
use Rattle.acc_engine.proofs.InSteps.{in_step_settled, held_settled, failed_settling}
use Rattle.acc_engine.proofs.Sealed.{sealed_or_all, settled_front}
use Rattle.acc_engine.proofs.Standing.{durable_or_all, sound_in_step}
use Rattle.acc_engine.proofs.Surviving.{calm_file}
use Rattle.acc_engine.proofs.engines.Engine.settle.Goals as goal
use Rattle.acc_engine.proofs.engines.Engine.settle.Goals.{in-Ok, in-Err-Spent, in-Err-Disk}

pub invariant_of-self : goal.invariant_of-self
invariant_of-self g c =
    let old = c.self.inside in (
      in_step_settled old.state.design old.state.world old.wal c.settle-outcome.new.self old.found old.calls old.begun.items old.lowest
          c.self.invariant.0 c.settle-outcome.result c.settle-outcome.ensures.ok c.settle-outcome.ensures.err,
      held_settled old.state.design old.state.world.events old.wal c.settle-outcome.new.self c.settle-outcome.result
          c.settle-outcome.ensures.ok c.settle-outcome.ensures.err c.self.invariant.1,
      c.is_err-self-inside.ensures.value
          ∙ failed_settling old.wal c.settle-outcome.new.self c.settle-outcome.result
          (Rose (g.D.Disk.faults old.wal.disk) (g.D.Disk.faults c.settle-outcome.new.self.disk)) c.settle-outcome.ensures.ok
          c.settle-outcome.ensures.why (λ spent. (c.settle-outcome.ensures.spent spent).1),
    )

pub returns-clause-moments : goal.returns-clause-moments
returns-clause-moments g c unfailed =
    let inside = c.self.inside in
    let wal = inside.wal in
    let unspent : wal.spent ≡ false = ap (λ (j : Journalled g.row.D.Denot). j.failed) c.self.view_is ∙ unfailed in
    let P : Journalled g.row.D.Denot → Type 0 = λ j. (file : List ℕ) → g.D.Disk.told j.disk ≡ Some file →
    Only file (g.D.Disk.may_leave j.disk) → AtAnyMoment g.D.Disk.clock g.D.Disk.left_since j.disk c.settle-outcome.new.self.disk
    (CountsDurableOrAll j.base j.state.events j.settled) in
    subst P c.self.view_is
    (λ file told only.
    weaker g.D.Disk.clock g.D.Disk.left_since _ _ _ _
    (λ image either. durable_or_all wal.base image wal.durable wal.tail inside.state.world.events c.self.invariant.0.same either)
    (c.settle-outcome.ensures.moments unspent file told only))

pub returns-clause-moments_sealed : goal.returns-clause-moments_sealed
returns-clause-moments_sealed g c ready =
    let inside = c.self.inside in
    let wal = inside.wal in
    let P : Journalled g.row.D.Denot → Type 0 = λ j. IsReady g.D.Disk.told g.D.Disk.may_leave j
    → AtAnyMoment g.D.Disk.clock g.D.Disk.left_since j.disk c.settle-outcome.new.self.disk
    (SealedDurableOrAll j.design j.base j.state.events j.settled) in
    subst P c.self.view_is
    (λ was.
    let file = calm_file (g.D.Disk.told wal.disk) (g.D.Disk.may_leave wal.disk) was.calm in
    weaker g.D.Disk.clock g.D.Disk.left_since _ _ _ _
    (sealed_or_all inside.state.design inside.state.world.events wal.base file.0 wal.version wal.durable wal.tail wal.seals wal.waiting
    c.self.invariant.0.same c.self.invariant.1 (c.seals-sealed.ensures.counts was.unfailed file.0 file.1) (was.counts file.0 file.1))
    (c.settle-outcome.ensures.moments_all was.unfailed file.0 file.1 file.2)) ready

pub returns-clause-ready : goal.returns-clause-ready
returns-clause-ready g c ready =
    let inside = c.self.inside in
    let new = c.settle-outcome.new.self in
    let wal = inside.wal in
    let was = subst (IsReady g.D.Disk.told g.D.Disk.may_leave) (sym c.self.view_is) ready in
    let file = calm_file (g.D.Disk.told wal.disk) (g.D.Disk.may_leave wal.disk) was.calm in
    elim c.match-outcome.branch [
      | in-Ok w ↦
          let ok = IfOk-at_ok (λ _. IsSettled inside.wal new) w.in-Ok.is c.settle-outcome.ensures.ok in
          rw w.result-is
          (record {
            unfailed = ok.spent;
            calm =
                IfOk-at_ok (λ _. IsCalm (g.D.Disk.told new.disk) (g.D.Disk.may_leave new.disk)) w.in-Ok.is
                (c.settle-outcome.ensures.calm was.calm);
            counts = λ now told.
                settled_front inside.state.design inside.state.world.events wal.base file.0 wal.version wal.durable wal.tail wal.seals
                wal.waiting c.self.invariant.0.same c.self.invariant.1 (c.seals-sealed.ensures.counts was.unfailed file.0 file.1)
                (was.counts file.0 file.1) new.base now new.version new.durable new.seals ok.durable ok.seals
                (c.seals-seals.ensures.counts ok.spent now told);
          })
      | in-Err-Spent w ↦ rw w.result-is tt
      | in-Err-Disk w ↦ rw w.result-is tt
    ]

pub returns-clause-sound : goal.returns-clause-sound
returns-clause-sound g c =
    let inside = c.self.inside in
    let new = c.settle-outcome.new.self in
    sound_in_step g.D.Disk.told inside.state.design inside.state.world new inside.found inside.calls inside.begun.items inside.lowest
    (in_step_settled inside.state.design inside.state.world inside.wal new inside.found inside.calls inside.begun.items inside.lowest
    c.self.invariant.0 c.settle-outcome.result c.settle-outcome.ensures.ok c.settle-outcome.ensures.err)
    c.seals-seals.ensures.counts
