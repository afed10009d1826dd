use Rattle.std.proofs.Common.{◌≡◌, List, inl, inr, true, false, length, sym, ap, subst, ◌∙◌, arith}
use Rattle.std.specs.Prelude.{◌≢◌, IfOk}
use Rattle.std.proofs.lemmas.Result.{IfOk-weaker}
use Rattle.acc_base.specs.declared.designs.Design.{Design}
use Rattle.acc_base.specs.declared.machines.Event.{Event}
use Rattle.acc_base.specs.Lawful.{LeadLawfully}
use Rattle.acc_base.specs.Machine.{World, start, unfinished}
use Rattle.acc_disk.specs.Crashes.{IsCalm}
use Rattle.acc_disk.specs.Moments.{AtAnyMoment}
use Rattle.acc_engine.specs.Calls.{StopsSealing}
use Rattle.acc_io.specs.Causes.{Rose}
use Rattle.acc_lift.specs.Acceptance.{IsAccepted}
use Rattle.acc_print.specs.Designs.{printed}
use Rattle.acc_wal.specs.Journals.{Counts}
use Rattle.acc_wal.proofs.Keeping.{calm_is}
use Rattle.acc_wal.proofs.Moments.{calm_of}
use Rattle.acc_recover.specs.Recoveries.{LeavesRecovery}
use Rattle.acc_recover.specs.Seals.{AreSealsOf}
use Rattle.acc_journalled.specs.declared.answers.Answer.{Answer}
use Rattle.acc_journalled.specs.declared.answers.Ending.TheVariants.{DiskFailed}
use Rattle.acc_journalled.specs.Recovering.{EndsUntold, FailsToSeal, StopsBehind, RecoversState}
use Rattle.acc_journalled.specs.Tellings.{telling_of, unrun_telling}
use Rattle.acc_journalled.proofs.Endings.{recovering, leaves_file, refuses_so, was_of_bytes, by_unrun}
use Rattle.acc_journalled.proofs.Numbered.{none_unfinished}
use Rattle.acc_journalled.proofs.Putting.{seals_of_all, leaves_behind, holds_all, recovers_state, stops_behind, fails_to_seal}
use Rattle.acc_journalled.proofs.Putting.{by_ok, by_err, not_said}
use Rattle.acc_journalled.proofs.Verdicts.{both_ok}
use Rattle.acc_journalled.proofs.sealing.recover_sealed.Goals as goal

-- ---- memory lacks for the rows

pub returns-in_default-clause-untold : goal.returns-in_default-clause-untold
returns-in_default-clause-untold g c = not_said c.unrun.result.answer _ _ c.unrun.ensures.answer

pub returns-in_default-clause-recorded : goal.returns-in_default-clause-recorded
returns-in_default-clause-recorded g c = inl c.unrun.ensures.none

pub returns-in_default-clause-moments_untold : goal.returns-in_default-clause-moments_untold
returns-in_default-clause-moments_untold g c file told only =
    leaves_file g.D.Disk.clock g.D.Disk.left_since (g.D.Disk.may_leave c.args.disk) c.args.d.now file c.args.disk c.unrun.result.disk
    c.unrun.ensures.disk (g.met.D.Disk.only_now c.args.disk) only

pub returns-in_default-clause-behind_untold : goal.returns-in_default-clause-behind_untold
returns-in_default-clause-behind_untold g c file told only image left = inl c.unrun.ensures.none.0

pub returns-in_default-clause-calm_untold : goal.returns-in_default-clause-calm_untold
returns-in_default-clause-calm_untold g c = not_said c.unrun.result.answer _ _ c.unrun.ensures.answer

pub returns-in_default-clause-faults_untold : goal.returns-in_default-clause-faults_untold
returns-in_default-clause-faults_untold g c = omega (arith, ap g.D.Disk.faults c.unrun.ensures.disk)

-- ---- it is refused

pub not_recovered-requires : goal.not_recovered-requires
not_recovered-requires g c = recovering c.in-Err.error c.args.d.now (g.D.Disk.told c.args.disk) _ c.in-Err.ensures.why

pub returns-in-Err-clause-untold : goal.returns-in-Err-clause-untold
returns-in-Err-clause-untold g c =
    let told = g.D.Disk.told in
    let faults = g.D.Disk.faults in
    let R = c.unrun-in-Err.result in
    by_unrun (λ x r es n. IfOk r (λ (a : Answer). EndsUntold c.args.d.now (told c.args.disk) (told x)
    (Rose (faults c.args.disk) (faults x)) (telling_of a es n))) c.in-Err.disk R.disk c.not_recovered.result R.answer R.history R.settled
    c.unrun-in-Err.ensures.disk c.unrun-in-Err.ensures.answer c.unrun-in-Err.ensures.none
    (IfOk-weaker c.not_recovered.result _ _
    (λ a says. inl (refuses_so c.in-Err.error c.args.d.now (told c.args.disk) (told c.in-Err.disk) _ (unrun_telling a) c.in-Err.ensures.why
    (λ of. (c.in-Err.ensures.unread of).0) c.in-Err.ensures.kept says))
    c.not_recovered.ensures.says)

pub returns-in-Err-clause-recorded : goal.returns-in-Err-clause-recorded
returns-in-Err-clause-recorded g c = inl c.unrun-in-Err.ensures.none

pub returns-in-Err-clause-moments_untold : goal.returns-in-Err-clause-moments_untold
returns-in-Err-clause-moments_untold g c file told only =
    subst (λ y. AtAnyMoment g.D.Disk.clock g.D.Disk.left_since c.args.disk y (LeavesRecovery c.args.d.now file))
    (sym c.unrun-in-Err.ensures.disk) (c.in-Err.ensures.leaves_refused file told only)

pub returns-in-Err-clause-behind_untold : goal.returns-in-Err-clause-behind_untold
returns-in-Err-clause-behind_untold g c file told only image left = inl c.unrun-in-Err.ensures.none.0

pub returns-in-Err-clause-calm_untold : goal.returns-in-Err-clause-calm_untold
returns-in-Err-clause-calm_untold g c =
    let told = g.D.Disk.told in
    let may_leave = g.D.Disk.may_leave in
    let R = c.unrun-in-Err.result in
    by_unrun (λ x r es n. IfOk r (λ (a : Answer). a.ending ≢ DiskFailed → IsCalm (told c.args.disk) (may_leave c.args.disk)
    → IsCalm (told x) (may_leave x))) c.in-Err.disk R.disk c.not_recovered.result R.answer R.history R.settled
    c.unrun-in-Err.ensures.disk c.unrun-in-Err.ensures.answer c.unrun-in-Err.ensures.none
    (IfOk-weaker c.not_recovered.result _ _
    (λ a says none calm. c.in-Err.ensures.calm_refused calm (was_of_bytes c.in-Err.error (unrun_telling a) says none))
    c.not_recovered.ensures.says)

pub returns-in-Err-clause-faults_untold : goal.returns-in-Err-clause-faults_untold
returns-in-Err-clause-faults_untold g c =
    omega (arith, ap g.D.Disk.faults c.unrun-in-Err.ensures.disk, c.in-Err.ensures.faults_refused)

-- ---- it is recovered

pub recover-requires : goal.recover-requires
recover-requires g c = record { empty = c.in-Some.ensures }

pub put_text-put-requires-clause-opened : goal.put_text-put-requires-clause-opened
put_text-put-requires-clause-opened g c =
    let settled = c.in-Ok.ensures.ok.settled in (settled.durable_is, settled.tail_is, settled.waiting_is, settled.unspent)

pub put_text-put-requires-clause-ended : goal.put_text-put-requires-clause-ended
put_text-put-requires-clause-ended g c =
    let file = c.in-Ok.ensures.ok in
    none_unfinished c.args.d.now file.found c.in-Ok.found.state.world
    (subst IsAccepted c.in-Ok.ensures.design c.events-events.ensures.accepted) file.recovery

-- ---- its text is put

pub returns-in-Ok-outcome-clause-ok : goal.returns-in-Ok-outcome-clause-ok
returns-in-Ok-outcome-clause-ok g c =
    let r = c.in-Ok.found in
    let d = c.args.d.now in
    let put = c.put_text-put in
    let told = g.D.Disk.told in
    let ok = by_ok put.result.outcome c.in-Ok-outcome.field-0 _ c.in-Ok-outcome.is put.ensures.ok in
    subst (λ (w : World). RecoversState d (told c.args.disk) (told put.result.wal.disk) w r.compensated) (sym put.ensures.state.0)
    (recovers_state d (told c.args.disk) r.state.world r.wal r.compensated c.in-Ok.ensures.ok c.in-Ok.ensures.idle put.result.wal
    (told put.result.wal.disk) (put.ensures.opened ok.0) (put.ensures.counts ok.0)
    (subst (λ (x : Design). LeadLawfully x start r.state.world.events r.state.world) c.in-Ok.ensures.design
    c.events-events.ensures.good.lawful) ok.1)

pub returns-in-Ok-outcome-clause-design : goal.returns-in-Ok-outcome-clause-design
returns-in-Ok-outcome-clause-design g c = c.put_text-put.ensures.state.1 ∙ c.in-Ok.ensures.design

pub returns-in-Ok-outcome-clause-ended : goal.returns-in-Ok-outcome-clause-ended
returns-in-Ok-outcome-clause-ended g c =
    let file = c.in-Ok.ensures.ok in
    ap unfinished c.put_text-put.ensures.state.0
    ∙ none_unfinished c.args.d.now file.found c.in-Ok.found.state.world
    (subst IsAccepted c.in-Ok.ensures.design c.events-events.ensures.accepted) file.recovery

pub returns-in-Ok-outcome-clause-moments : goal.returns-in-Ok-outcome-clause-moments
returns-in-Ok-outcome-clause-moments g c file told only =
    let r = c.in-Ok.found in
    let d = c.args.d.now in
    let old = g.D.Disk.told c.args.disk in
    let each = seals_of_all d old r.state.world r.wal r.compensated c.in-Ok.ensures.ok c.in-Ok.ensures.idle file told in
    leaves_behind d old r.state.world r.wal r.compensated c.in-Ok.ensures.ok c.in-Ok.ensures.idle g.D.Disk.clock g.D.Disk.left_since file
    c.args.disk c.put_text-put.result.wal.disk told (c.in-Ok.ensures.leaves file told only)
    (c.put_text-put.ensures.moments (c.in-Ok.ensures.calm (calm_of old (g.D.Disk.may_leave c.args.disk) file told only))
    (subst (λ (x : Design). AreSealsOf x r.state.world.events r.wal.seals) (sym c.in-Ok.ensures.design) each))

pub returns-in-Ok-outcome-clause-calm : goal.returns-in-Ok-outcome-clause-calm
returns-in-Ok-outcome-clause-calm g c calm =
    let r = c.in-Ok.found in
    let d = c.args.d.now in
    let put = c.put_text-put in
    let old = g.D.Disk.told c.args.disk in
    let now = calm_is old (g.D.Disk.may_leave c.args.disk) calm in
    let each = seals_of_all d old r.state.world r.wal r.compensated c.in-Ok.ensures.ok c.in-Ok.ensures.idle now.0 now.1 in
    let ok = by_ok put.result.outcome c.in-Ok-outcome.field-0 _ c.in-Ok-outcome.is put.ensures.ok in
    put.ensures.calm (c.in-Ok.ensures.calm calm)
    (subst (λ (x : Design). AreSealsOf x r.state.world.events r.wal.seals) (sym c.in-Ok.ensures.design) each) ok.0

pub returns-in-Ok-outcome-clause-faults : goal.returns-in-Ok-outcome-clause-faults
returns-in-Ok-outcome-clause-faults g c = omega (arith, c.in-Ok.ensures.faults, c.put_text-put.ensures.faults)

-- ---- it isn't put

pub unput-requires : goal.unput-requires
unput-requires g c is =
    let put = c.put_text-put in
    let why = by_err put.result.outcome c.in-Err-outcome.error _ c.in-Err-outcome.is put.ensures.why in
    let failed : false ≡ true = subst (λ e. StopsSealing e false put.result.wal.spent
    (Rose (g.D.Disk.faults c.in-Ok.found.wal.disk) (g.D.Disk.faults put.result.wal.disk))) is why in
    cc

pub returns-in-Err-outcome-clause-untold : goal.returns-in-Err-outcome-clause-untold
returns-in-Err-outcome-clause-untold g c =
    let r = c.in-Ok.found in
    let d = c.args.d.now in
    let put = c.put_text-put in
    let told = g.D.Disk.told in
    let faults = g.D.Disk.faults in
    let end = c.unput.result in
    let why = by_err put.result.outcome c.in-Err-outcome.error _ c.in-Err-outcome.is put.ensures.why in
    IfOk-weaker end.answer _ _
    (λ a says. inr
    (subst (λ x. FailsToSeal d (told c.args.disk) (Rose (faults c.args.disk) (faults x)) (telling_of a end.history end.settled))
    (sym c.unput.ensures.disk)
    (fails_to_seal d (told c.args.disk) r.state.world r.wal r.compensated c.in-Ok.ensures.ok c.in-Ok.ensures.idle c.in-Err-outcome.error
    put.result.wal.spent (faults c.args.disk) (faults r.wal.disk) (faults put.result.wal.disk) (telling_of a end.history end.settled)
    c.in-Ok.ensures.faults why says.1 (
      says.0.0,
      says.0.1,
      c.unput.ensures.told.0 ∙ ap (λ (w : World). w.events) put.ensures.state.0,
      c.unput.ensures.told.1 ∙ ap (λ (w : World). length w.events) put.ensures.state.0,
    ))))
    (both_ok end.answer _ _ c.unput.ensures.says c.unput.ensures.failed)

pub returns-in-Err-outcome-clause-recorded : goal.returns-in-Err-outcome-clause-recorded
returns-in-Err-outcome-clause-recorded g c =
    let r = c.in-Ok.found in
    let d = c.args.d.now in
    let put = c.put_text-put in
    let told = g.D.Disk.told in
    let faults = g.D.Disk.faults in
    let end = c.unput.result in
    let why = by_err put.result.outcome c.in-Err-outcome.error _ c.in-Err-outcome.is put.ensures.why in
    inr (subst (λ x. StopsBehind d (told c.args.disk) (told x) (Rose (faults c.args.disk) (faults x)) end.history end.settled)
    (sym c.unput.ensures.disk)
    (stops_behind d (told c.args.disk) r.state.world r.wal r.compensated c.in-Ok.ensures.ok c.in-Ok.ensures.idle c.in-Err-outcome.error
    put.result.wal.spent (told put.result.wal.disk) (faults c.args.disk) (faults r.wal.disk) (faults put.result.wal.disk) end.history
    end.settled c.in-Ok.ensures.faults why (c.unput.ensures.told.0 ∙ ap (λ (w : World). w.events) put.ensures.state.0)
    (c.unput.ensures.told.1 ∙ ap (λ (w : World). length w.events) put.ensures.state.0)
    (λ unspent. holds_all d (told c.args.disk) r.state.world r.wal r.compensated c.in-Ok.ensures.ok c.in-Ok.ensures.idle put.result.wal
    (told put.result.wal.disk) (put.ensures.opened unspent) (put.ensures.counts unspent))))

pub returns-in-Err-outcome-clause-moments_untold : goal.returns-in-Err-outcome-clause-moments_untold
returns-in-Err-outcome-clause-moments_untold g c file told only =
    let r = c.in-Ok.found in
    let d = c.args.d.now in
    let old = g.D.Disk.told c.args.disk in
    let each = seals_of_all d old r.state.world r.wal r.compensated c.in-Ok.ensures.ok c.in-Ok.ensures.idle file told in
    subst (λ x. AtAnyMoment g.D.Disk.clock g.D.Disk.left_since c.args.disk x (LeavesRecovery d file)) (sym c.unput.ensures.disk)
    (leaves_behind d old r.state.world r.wal r.compensated c.in-Ok.ensures.ok c.in-Ok.ensures.idle g.D.Disk.clock g.D.Disk.left_since file
    c.args.disk c.put_text-put.result.wal.disk told (c.in-Ok.ensures.leaves file told only)
    (c.put_text-put.ensures.moments (c.in-Ok.ensures.calm (calm_of old (g.D.Disk.may_leave c.args.disk) file told only))
    (subst (λ (x : Design). AreSealsOf x r.state.world.events r.wal.seals) (sym c.in-Ok.ensures.design) each)))

pub returns-in-Err-outcome-clause-behind_untold : goal.returns-in-Err-outcome-clause-behind_untold
returns-in-Err-outcome-clause-behind_untold g c file told only image left =
    let r = c.in-Ok.found in
    let d = c.args.d.now in
    let put = c.put_text-put in
    let may_leave = g.D.Disk.may_leave in
    let old = g.D.Disk.told c.args.disk in
    let each = seals_of_all d old r.state.world r.wal r.compensated c.in-Ok.ensures.ok c.in-Ok.ensures.idle file told in
    let counts = put.ensures.behind (c.in-Ok.ensures.calm (calm_of old (may_leave c.args.disk) file told only))
    (subst (λ (x : Design). AreSealsOf x r.state.world.events r.wal.seals) (sym c.in-Ok.ensures.design) each) image
    (subst (λ x. may_leave x image) c.unput.ensures.disk left) in
    inr (subst (λ (es : List Event). Counts image (printed d) es)
    (sym (c.unput.ensures.told.0 ∙ ap (λ (w : World). w.events) put.ensures.state.0))
    (subst (λ b. Counts image b r.state.world.events) c.in-Ok.ensures.ok.settled.base_is counts))

pub returns-in-Err-outcome-clause-calm_untold : goal.returns-in-Err-outcome-clause-calm_untold
returns-in-Err-outcome-clause-calm_untold g c =
    IfOk-weaker c.unput.result.answer _ _ (λ a says none calm. absurd (none says.0)) c.unput.ensures.says

pub returns-in-Err-outcome-clause-faults_untold : goal.returns-in-Err-outcome-clause-faults_untold
returns-in-Err-outcome-clause-faults_untold g c =
    omega (arith, c.in-Ok.ensures.faults, c.put_text-put.ensures.faults, ap g.D.Disk.faults c.unput.ensures.disk)
