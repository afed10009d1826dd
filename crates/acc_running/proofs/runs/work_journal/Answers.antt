use Rattle.std.proofs.Common.{◌∙◌, List, [], refl, sym, ap, subst, arith}
use Rattle.std.specs.Prelude.{nat_lt, IfOk}
use Rattle.std.proofs.lemmas.Result.{IfOk-weaker}
use Rattle.acc_base.specs.declared.designs.Design.{Design}
use Rattle.acc_base.specs.declared.machines.Call.{Call}
use Rattle.acc_disk.specs.Moments.{AtAnyMoment}
use Rattle.acc_print.specs.Designs.{printed}
use Rattle.acc_wal.proofs.Moments.{read_left}
use Rattle.acc_engine.specs.Keeping.{CallsFit}
use Rattle.acc_engine.proofs.Surviving.{survives_more}
use Rattle.acc_settling.specs.Wholes.{IsFrontOfSchedule}
use Rattle.acc_journalled.proofs.Endings.{recovering, leaves_file}
use Rattle.acc_running.specs.Crashes.{LeavesRun}
use Rattle.acc_running.specs.Engines.{SaysRun}
use Rattle.acc_running.specs.Running.{WorkersLeave}
use Rattle.acc_running.proofs.Crashing.{recovered_moments, calm_states}
use Rattle.acc_running.proofs.Growing.{grown_since}
use Rattle.acc_running.proofs.Recording.{begins_so}
use Rattle.acc_running.proofs.OverJournals.{Went, went_answer, went_calm, went_faults, went_over, went_sealed}
use Rattle.acc_running.proofs.OverJournals.{refused_answer, refused_over, refused_calm, refused_faults, refused_sealed}
use Rattle.acc_running.proofs.States.{has_seals, seals_of_calm}
use Rattle.acc_running.proofs.Working.{left_so, opened_of, has_begun, is_worked}
use Rattle.acc_running.proofs.runs.work_journal.Goals as goal

-- ---- the journal is recovered

pub over_journal-engine-requires-clause-fits : goal.over_journal-engine-requires-clause-fits
over_journal-engine-requires-clause-fits g c =
    subst (λ (x : Design). CallsFit x c.args.calls) (sym c.in-Ok.ensures.design) c.requires.fits

pub work-engine-requires-clause-fresh : goal.work-engine-requires-clause-fresh
work-engine-requires-clause-fresh g c =
    record { begun = c.over_journal-engine.ensures.fresh.begun; unfailed = c.over_journal-engine.ensures.fresh.unfailed }

pub say_rest-answer-requires-clause-design : goal.say_rest-answer-requires-clause-design
say_rest-answer-requires-clause-design g c =
    c.work-engine.ensures.works.survives.goes_on.design
    ∙ c.over_journal-engine.ensures.state.1
    ∙ c.in-Ok.ensures.design
    ∙ sym c.design.ensures.design

pub say_rest-answer-requires-clause-begun : goal.say_rest-answer-requires-clause-begun
say_rest-answer-requires-clause-begun g c =
    let D = g.D.Disk in
    let works = c.work-engine.ensures.works in
    has_begun D.clock D.left_since D.told D.may_leave D.faults c.over_journal-engine.result c.work-engine.result works.survives works.begins
    c.transactions-before.result

pub say_rest-answer-requires-clause-quiet : goal.say_rest-answer-requires-clause-quiet
say_rest-answer-requires-clause-quiet g c =
    c.work-engine.ensures.works.survives.waiting c.over_journal-engine.ensures.fresh.waiting

pub returns-in-Ok : goal.returns-in-Ok
returns-in-Ok g c =
    let d = c.args.d.now in
    let calls = c.args.calls in
    let disk = c.args.disk in
    let D = g.D.Disk in
    let r = c.in-Ok.recovered in
    let ok = c.in-Ok.ensures.ok in
    let o = c.over_journal-engine.ensures in
    let old = c.over_journal-engine.result in
    let mid = c.work-engine.result in
    let works = c.work-engine.ensures.works in
    let new = c.say_rest-answer.new.player in
    let s = c.say_rest-answer.ensures in
    let grew = nat_lt 0 r.compensated in
    let b = begins_so d calls r.state.world r.state.design r.wal old c.in-Ok.ensures.design ok.settled o.fresh o.state o.journal o.found
    o.calls in
    let before = c.transactions-before.result in
    let opened = opened_of D.clock D.left_since D.told D.may_leave D.faults old mid works.survives works.begins before in
    let is = is_worked D.clock D.left_since D.told D.may_leave D.faults old mid works.survives works.begins before in
    let are = works.survives.goes_on.calls ∙ b.calls_are in
    let same = ap D.faults o.journal.0 in
    let survives =
    survives_more D.clock D.left_since D.told D.may_leave D.faults g.met.D.Disk.only_now old mid new works.survives s.survives s.failed in
    let went : Went D.clock D.left_since D.told D.may_leave D.faults d calls [] (WorkersLeave d calls) disk grew r.state.world old new =
    record {
      begins = b;
      found = record {
        found = ok.found;
        counts = ok.counts;
        sealed = has_seals (D.told disk) d r.wal.version ok.found r.wal.seals ok.sealed;
        recovery = ok.recovery;
        idle = c.in-Ok.ensures.idle;
      };
      faults = omega (arith, c.in-Ok.ensures.faults, same);
      unfailed = o.fresh.unfailed;
      ready = λ calm.
          o.ready (c.in-Ok.ensures.calm calm)
          (seals_of_calm (D.told disk) (D.may_leave disk) d r.state.design r.wal.version ok.found r.wal.seals r.state.world
          c.in-Ok.ensures.design calm ok.sealed ok.recovery);
      recovering = λ file is only history.
          subst (λ x. AtAnyMoment D.clock D.left_since disk x (LeavesRun d file history)) (sym o.journal.0)
          (recovered_moments D.clock D.left_since d file (D.told disk) disk r.wal.disk r.wal.version ok.found r.wal.seals history is
          ok.sealed
          (c.in-Ok.ensures.moments_all file (printed d) r.wal.version ok.found r.wal.seals is only));
      survives = survives;
      sound = c.closed.ensures.sound;
      opened = opened;
      opens =
          left_so D.clock D.left_since D.told D.may_leave D.faults old mid works.survives works.begins before d calls r.state.world b
          c.work-engine.ensures.sound c.transactions-before.ensures;
      front =
          subst (λ (cs : List Call). IsFrontOfSchedule d cs [] opened new.state.events) are
          (subst (λ (x : Design). IsFrontOfSchedule x mid.calls [] opened new.state.events) c.design.ensures.design (s.front opened is));
      grown = grown_since d ok.found r.state.world r.compensated new (survives.goes_on.found ∙ b.found) ok.recovery ok.unfinished_were;
    } in
    let says =
    subst (λ (cs : List Call). IfOk c.say_rest-answer.result (SaysRun d cs [] opened grew new)) are
    (subst (λ (x : Design). IfOk c.say_rest-answer.result (SaysRun x mid.calls [] opened grew new)) c.design.ensures.design
    (IfOk-weaker c.say_rest-answer.result _ _ (λ a so. so opened is) s.says)) in
    let R = c.closed.result in
    record {
      answer =
          went_answer D.clock D.left_since D.told D.may_leave D.faults d calls [] (WorkersLeave d calls) disk grew r.state.world old new
          went
          R.disk R.history R.settled c.closed.ensures.hands c.say_rest-answer.result R.answer c.closed.ensures.answer says;
      runs =
          went_over D.clock D.left_since D.told D.may_leave D.faults d calls [] (WorkersLeave d calls) disk grew r.state.world old new went
          R.disk R.history R.settled c.closed.ensures.hands
          (λ P run. read_left D.clock D.left_since disk R.disk (D.told R.disk) (D.may_leave R.disk) P (g.met.D.Disk.nothing_lost R.disk)
          (λ time image le left. g.met.D.Disk.counts_now R.disk time image le left) run);
      calm =
          went_calm D.clock D.left_since D.told D.may_leave D.faults d calls [] (WorkersLeave d calls) disk grew r.state.world old new went
          R.disk R.history R.settled c.closed.ensures.hands c.say_rest-answer.result R.answer c.closed.ensures.answer says;
      faults =
          went_faults D.clock D.left_since D.told D.may_leave D.faults d calls [] (WorkersLeave d calls) disk grew r.state.world old new
          went
          R.disk R.history R.settled c.closed.ensures.hands;
      sealed =
          went_sealed D.clock D.left_since D.told D.may_leave D.faults d calls [] (WorkersLeave d calls) disk grew r.state.world old new
          went
          R.disk R.history R.settled c.closed.ensures.hands c.say_rest-answer.result R.answer c.closed.ensures.answer says;
    }

-- ---- it isn't recovered

pub not_recovered-requires : goal.not_recovered-requires
not_recovered-requires g c = recovering c.in-Err.error c.args.d.now (g.D.Disk.told c.args.disk) _ c.in-Err.ensures.why

pub returns-in-Err-clause-answer : goal.returns-in-Err-clause-answer
returns-in-Err-clause-answer g c =
    let D = g.D.Disk in
    let R = c.unrun-in-Err.result in
    let e = c.in-Err.ensures in
    refused_answer D.clock D.left_since D.told D.may_leave D.faults c.args.d.now c.args.calls [] (WorkersLeave c.args.d.now c.args.calls)
    c.args.disk
    c.in-Err.disk R.disk R.history R.settled c.unrun-in-Err.ensures.disk c.unrun-in-Err.ensures.none
    c.in-Err.error c.not_recovered.result R.answer c.unrun-in-Err.ensures.answer e.why (λ of. (e.unread of).0) e.kept
    c.not_recovered.ensures.says

pub returns-in-Err-clause-runs : goal.returns-in-Err-clause-runs
returns-in-Err-clause-runs g c =
    let D = g.D.Disk in
    let R = c.unrun-in-Err.result in
    refused_over D.clock D.left_since D.told D.may_leave D.faults c.args.d.now c.args.calls [] (WorkersLeave c.args.d.now c.args.calls)
    c.args.disk
    c.in-Err.disk R.disk R.history R.settled c.unrun-in-Err.ensures.disk c.unrun-in-Err.ensures.none
    c.in-Err.ensures.leaves_refused c.in-Err.ensures.moments_all_refused
    (λ time image le left. g.met.D.Disk.counts_now c.in-Err.disk time image le left)
    (λ P run. read_left D.clock D.left_since c.args.disk R.disk (D.told R.disk) (D.may_leave R.disk) P (g.met.D.Disk.nothing_lost R.disk)
    (λ time image le left. g.met.D.Disk.counts_now R.disk time image le left) run)

pub returns-in-Err-clause-calm : goal.returns-in-Err-clause-calm
returns-in-Err-clause-calm g c =
    let D = g.D.Disk in
    let R = c.unrun-in-Err.result in
    refused_calm D.clock D.left_since D.told D.may_leave D.faults c.args.d.now c.args.calls [] (WorkersLeave c.args.d.now c.args.calls)
    c.args.disk
    c.in-Err.disk R.disk R.history R.settled c.unrun-in-Err.ensures.disk c.unrun-in-Err.ensures.none
    c.in-Err.error c.not_recovered.result R.answer c.unrun-in-Err.ensures.answer c.in-Err.ensures.calm_refused c.not_recovered.ensures.says

pub returns-in-Err-clause-faults : goal.returns-in-Err-clause-faults
returns-in-Err-clause-faults g c =
    let D = g.D.Disk in
    let R = c.unrun-in-Err.result in
    refused_faults D.clock D.left_since D.told D.may_leave D.faults c.args.d.now c.args.calls [] (WorkersLeave c.args.d.now c.args.calls)
    c.args.disk
    c.in-Err.disk R.disk R.history R.settled c.unrun-in-Err.ensures.disk c.unrun-in-Err.ensures.none
    c.in-Err.ensures.faults_refused

pub returns-in-Err-clause-sealed : goal.returns-in-Err-clause-sealed
returns-in-Err-clause-sealed g c =
    let D = g.D.Disk in
    let R = c.unrun-in-Err.result in
    refused_sealed D.clock D.left_since D.told D.may_leave D.faults c.args.d.now c.args.calls [] (WorkersLeave c.args.d.now c.args.calls)
    c.args.disk c.in-Err.disk R.disk R.history R.settled c.unrun-in-Err.ensures.disk c.unrun-in-Err.ensures.none R.answer

-- ---- memory lacks for the rows

pub returns-in_default-clause-runs : goal.returns-in_default-clause-runs
returns-in_default-clause-runs g c =
    let D = g.D.Disk in
    let R = c.unrun.result in
    refused_over D.clock D.left_since D.told D.may_leave D.faults c.args.d.now c.args.calls [] (WorkersLeave c.args.d.now c.args.calls)
    c.args.disk
    c.args.disk R.disk R.history R.settled c.unrun.ensures.disk c.unrun.ensures.none
    (λ file is only. leaves_file D.clock D.left_since (D.may_leave c.args.disk) c.args.d.now file c.args.disk c.args.disk refl
    (g.met.D.Disk.only_now c.args.disk) only)
    (λ file base version found seals is only counts. calm_states D.clock D.left_since c.args.d.now file c.args.disk
    (D.may_leave c.args.disk)
    base version found seals (g.met.D.Disk.only_now c.args.disk) only counts)
    (λ time image le left. g.met.D.Disk.counts_now c.args.disk time image le left)
    (λ P run. read_left D.clock D.left_since c.args.disk R.disk (D.told R.disk) (D.may_leave R.disk) P (g.met.D.Disk.nothing_lost R.disk)
    (λ time image le left. g.met.D.Disk.counts_now R.disk time image le left) run)
