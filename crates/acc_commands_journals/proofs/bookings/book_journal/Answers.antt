use Rattle.std.proofs.Common.{◌≡◌, List, inr, length, sym, ap, subst, ◌∙◌}
use Rattle.std.specs.Prelude.{IfSome}
use Rattle.std.proofs.lemmas.Result.{IfOk-weaker}
use Rattle.acc_base.specs.Fits.{RowsFit}
use Rattle.acc_base.specs.Tables.{IsInOrder}
use Rattle.acc_base.specs.declared.designs.Design.{Design}
use Rattle.acc_base.specs.declared.machines.Event.{Event}
use Rattle.acc_booking.specs.Law.{NeverOversells}
use Rattle.acc_booking.specs.Seats.{NothingOversold}
use Rattle.acc_disk.specs.Crashes.{IsCalm}
use Rattle.acc_disk.specs.Moments.{AtAnyMoment}
use Rattle.acc_print.specs.Designs.{printed}
use Rattle.acc_journalled.specs.Recoveries.{LeavesRecovery}
use Rattle.acc_journalled.specs.Recovering.{RecoversState}
use Rattle.acc_journalled.proofs.Endings.{recovered_so, recovered_tells, untold_tells, calm_told}
use Rattle.acc_journalled.proofs.Verdicts.{steady_sums}
use Rattle.acc_store.specs.Rows.{SumsFit}
use Rattle.acc_wal.specs.Journals.{Counts}
use Rattle.acc_wal.proofs.Moments.{read_left, calm_of}
use Rattle.acc_commands_journals.specs.BookingFiles.{say_seats}
use Rattle.acc_commands_journals.proofs.Booked.{shipped_never_oversells}
use Rattle.acc_commands_journals.proofs.bookings.book_journal.Goals as goal

-- ---- it is recovered

pub judge_store-requires : goal.judge_store-requires
judge_store-requires g c =
    let d = c.in-Ok.found.state.design in
    let w = c.in-Ok.found.state.world in
    let steady = c.into_parts-store.ensures.good.steady in
    let same : w.rows ≡ _ = sym c.into_parts-store.ensures.store in
    let law : NeverOversells c.args.d.now = subst NeverOversells (sym c.requires.shipped) shipped_never_oversells in
    record {
      order = subst IsInOrder same steady.rows.order;
      fits = subst SumsFit same (steady_sums d w steady);
      law =
          subst NothingOversold same
          (law w.rows (subst (λ (x : Design). RowsFit x w.rows) c.in-Ok.ensures.design steady.rows) c.in-Ok.ensures.ok.idle);
    }

pub returns-in-Ok-clause-answer : goal.returns-in-Ok-clause-answer
returns-in-Ok-clause-answer g c =
    let r = c.in-Ok.found in
    let told = g.D.Disk.told in
    let same = c.into_parts-store.ensures.events in
    IfOk-weaker c.judge_store.result _ _
    (λ a says. recovered_so (say_seats c.args.d.now) c.args.d.now (told c.args.disk) (told c.give_back.result) _ r.state.world
    r.compensated _
    (subst (λ x. RecoversState c.args.d.now (told c.args.disk) (told x) r.state.world r.compensated) (sym c.give_back.ensures.disk)
    c.in-Ok.ensures.ok)
    (says.0, says.1, same, c.len.ensures ∙ ap length same))
    c.judge_store.ensures

pub returns-in-Ok-clause-recorded : goal.returns-in-Ok-clause-recorded
returns-in-Ok-clause-recorded g c =
    let r = c.in-Ok.found in
    let told = g.D.Disk.told in
    let same = c.into_parts-store.ensures.events in
    recovered_tells (say_seats c.args.d.now) c.args.d.now (told c.args.disk) (told c.give_back.result) _ r.state.world r.compensated _ _
    (subst (λ x. RecoversState c.args.d.now (told c.args.disk) (told x) r.state.world r.compensated) (sym c.give_back.ensures.disk)
    c.in-Ok.ensures.ok)
    same (c.len.ensures ∙ ap length same)

pub returns-in-Ok-clause-moments : goal.returns-in-Ok-clause-moments
returns-in-Ok-clause-moments g c file told only =
    subst (λ x. AtAnyMoment g.D.Disk.clock g.D.Disk.left_since c.args.disk x (LeavesRecovery c.args.d.now file))
    (sym c.give_back.ensures.disk) (c.in-Ok.ensures.moments file told only)

pub returns-in-Ok-clause-left : goal.returns-in-Ok-clause-left
returns-in-Ok-clause-left g c file told only =
    let x = c.give_back.result in
    read_left g.D.Disk.clock g.D.Disk.left_since c.args.disk x (g.D.Disk.told x) (g.D.Disk.may_leave x)
    (LeavesRecovery c.args.d.now file) (g.met.D.Disk.nothing_lost x)
    (λ time image le left. g.met.D.Disk.counts_now x time image le left)
    (returns-in-Ok-clause-moments g c file told only)

pub returns-in-Ok-clause-behind : goal.returns-in-Ok-clause-behind
returns-in-Ok-clause-behind g c file told only image left =
    let told_by = g.D.Disk.told in
    let may_leave = g.D.Disk.may_leave in
    let x = c.give_back.result in
    let calm = c.in-Ok.ensures.calm (calm_of (told_by c.args.disk) (may_leave c.args.disk) file told only) in
    let history = c.into_parts-store.result.1 in
    calm_told c.args.d.now (told_by x) (may_leave x) history (subst (λ y. IsCalm (told_by y) (may_leave y)) (sym c.give_back.ensures.disk) calm)
    (subst (λ y. IfSome (told_by y) (λ f. Counts f (printed c.args.d.now) history)) (sym c.give_back.ensures.disk)
    (subst (λ (es : List Event). IfSome (told_by c.in-Ok.found.wal.disk) (λ f. Counts f (printed c.args.d.now) es))
    (sym c.into_parts-store.ensures.events) c.in-Ok.ensures.ok.holds))
    image left

-- ---- nothing is told of it

pub returns-in-Err-clause-answer : goal.returns-in-Err-clause-answer
returns-in-Err-clause-answer g c =
    IfOk-weaker c.in-Err.ended.answer _ _ (λ a ends. inr ends) c.in-Err.ensures.untold

pub returns-in-Err-clause-recorded : goal.returns-in-Err-clause-recorded
returns-in-Err-clause-recorded g c =
    let told = g.D.Disk.told in
    untold_tells (say_seats c.args.d.now) c.args.d.now (told c.args.disk) (told c.in-Err.ended.disk) _ c.in-Err.ended.history
    c.in-Err.ended.settled c.in-Err.ensures.recorded

pub returns-in-Err-clause-left : goal.returns-in-Err-clause-left
returns-in-Err-clause-left g c file told only =
    let x = c.in-Err.ended.disk in
    read_left g.D.Disk.clock g.D.Disk.left_since c.args.disk x (g.D.Disk.told x) (g.D.Disk.may_leave x)
    (LeavesRecovery c.args.d.now file) (g.met.D.Disk.nothing_lost x)
    (λ time image le left. g.met.D.Disk.counts_now x time image le left)
    (c.in-Err.ensures.moments_untold file told only)
