use Rattle.std.proofs.Common.{◌≡◌, ℕ, List, Some, ◌∙◌, refl, sym, subst}
use Rattle.acc_base.specs.Machine.{unfinished}
use Rattle.acc_wal.specs.Journals.{Counts, CountsAll}
use Rattle.acc_disk.specs.Moments.{AtAnyMoment}
use Rattle.acc_wal.proofs.Moments.{if_some, calm_of}
use Rattle.acc_recover.specs.Recoveries.{IsRecovery, CountsRecovered, CountsAllRecovered, LeavesRecovery}
use Rattle.acc_recover.proofs.InSteps.{in_step_new}
use Rattle.acc_recover.proofs.Ends.{same_events, recovers_file, is_idle, rows_on_the_way}
use Rattle.acc_recover.proofs.Attached.{history_refused, history_back, settle_back, attached, attached_all, moments_all, states_stay}
use Rattle.acc_recover.specs.Refusals.{IsOfJournal, IsOfBytes}
use Rattle.acc_recover.proofs.Refused.{leaves_attached, leaves_counted, calm_again, same_counts, read_counts}
use Rattle.acc_recover.proofs.Refused.{same_counts_all, read_counts_all}
use Rattle.acc_recover.proofs.Refused.{read_refused, bytes_refused, history_read, settle_read, settle_of_bytes}
use Rattle.acc_disk.specs.Crashes.{IsCalm}
use Rattle.acc_recover.proofs.recovered.recover.Goals as goal

-- ---- the journal is refused

pub returns-in-Err-clause-moments_refused : goal.returns-in-Err-clause-moments_refused
returns-in-Err-clause-moments_refused g c file base found told only counts =
    attached g.D.Disk.clock g.D.Disk.left_since c.args.d.now base found c.args.disk c.in-Err.disk
    (c.in-Err.ensures.moments file base found told only counts)

pub returns-in-Err-clause-unread : goal.returns-in-Err-clause-unread
returns-in-Err-clause-unread g c of =
    c.in-Err.ensures.refused
    (read_refused c.in-Err.error (g.D.Disk.told c.args.disk) _ c.in-Err.ensures.why (subst IsOfJournal c.refusal_of.ensures of))

pub returns-in-Err-clause-calm_refused : goal.returns-in-Err-clause-calm_refused
returns-in-Err-clause-calm_refused g c calm of =
    let kept = c.in-Err.ensures.refused
    (bytes_refused c.in-Err.error (g.D.Disk.told c.args.disk) _ c.in-Err.ensures.why (subst IsOfBytes c.refusal_of.ensures of)) in
    calm_again g.D.Disk.clock g.D.Disk.left_since g.D.Disk.told g.D.Disk.may_leave c.args.disk c.in-Err.disk kept.0 kept.1
    (λ time image le left. g.met.D.Disk.counts_now c.in-Err.disk time image le left) calm

pub returns-in-Err-clause-kept : goal.returns-in-Err-clause-kept
returns-in-Err-clause-kept g c of =
    same_counts (g.D.Disk.told c.args.disk) (g.D.Disk.told c.in-Err.disk)
    (c.in-Err.ensures.refused
    (bytes_refused c.in-Err.error (g.D.Disk.told c.args.disk) _ c.in-Err.ensures.why (subst IsOfBytes c.refusal_of.ensures of))).0

pub returns-in-Err-clause-leaves_refused : goal.returns-in-Err-clause-leaves_refused
returns-in-Err-clause-leaves_refused g c file told only =
    leaves_attached g.D.Disk.clock g.D.Disk.left_since c.args.d.now file c.args.disk c.in-Err.disk
    (c.in-Err.ensures.leaves file told only)

pub returns-in-Err-clause-moments_all_refused : goal.returns-in-Err-clause-moments_all_refused
returns-in-Err-clause-moments_all_refused g c file base version found seals told only counts =
    attached_all g.D.Disk.clock g.D.Disk.left_since c.args.d.now base version found seals c.args.disk c.in-Err.disk
    (c.in-Err.ensures.moments_all file base version found seals told only counts)

pub returns-in-Err-clause-kept_all : goal.returns-in-Err-clause-kept_all
returns-in-Err-clause-kept_all g c of =
    same_counts_all (g.D.Disk.told c.args.disk) (g.D.Disk.told c.in-Err.disk)
    (c.in-Err.ensures.refused
    (bytes_refused c.in-Err.error (g.D.Disk.told c.args.disk) _ c.in-Err.ensures.why (subst IsOfBytes c.refusal_of.ensures of))).0

-- ---- its events are refused, or its states

pub returns-in-Err-replayed-clause-why : goal.returns-in-Err-replayed-clause-why
returns-in-Err-replayed-clause-why g c =
    history_refused c.args.d.now (g.D.Disk.told c.args.disk) c.in-Ok.wal.base c.in-Ok.wal.version c.in-Ok.wal.durable c.in-Ok.wal.seals
    (g.S.Store.rows c.in-Err-replayed.s) c.in-Ok.ensures.counts c.in-Ok.ensures.counts_all
    c.in-Err-replayed.error _ c.in-Err-replayed.ensures.why

pub returns-in-Err-replayed-clause-back : goal.returns-in-Err-replayed-clause-back
returns-in-Err-replayed-clause-back g c =
    history_back c.args.d.now (g.D.Disk.told c.args.disk) c.in-Ok.wal.base c.in-Ok.wal.version c.in-Ok.wal.durable c.in-Ok.wal.seals
    (g.S.Store.rows c.in-Err-replayed.s) c.in-Ok.ensures.counts c.in-Ok.ensures.counts_all
    c.in-Err-replayed.error c.in-Err-replayed.ensures.why

pub returns-in-Err-replayed-clause-moments_refused : goal.returns-in-Err-replayed-clause-moments_refused
returns-in-Err-replayed-clause-moments_refused g c file base found told only counts =
    let run = attached g.D.Disk.clock g.D.Disk.left_since c.args.d.now base found c.args.disk c.in-Ok.wal.disk
    (c.in-Ok.ensures.moments file base found told only counts) in
    subst (λ x. AtAnyMoment g.D.Disk.clock g.D.Disk.left_since c.args.disk x (CountsRecovered c.args.d.now base found))
    (sym c.give_back.ensures.disk) run

pub returns-in-Err-replayed-clause-unread : goal.returns-in-Err-replayed-clause-unread
returns-in-Err-replayed-clause-unread g c of =
    let wal = c.in-Ok.wal in
    absurd (history_read c.args.d.now wal.base wal.durable wal.seals c.in-Err-replayed.error (g.S.Store.rows c.in-Err-replayed.s)
    c.in-Err-replayed.ensures.why of)

pub returns-in-Err-replayed-clause-calm_refused : goal.returns-in-Err-replayed-clause-calm_refused
returns-in-Err-replayed-clause-calm_refused g c calm of =
    subst (λ x. IsCalm (g.D.Disk.told x) (g.D.Disk.may_leave x)) (sym c.give_back.ensures.disk) (c.in-Ok.ensures.calm calm)

pub returns-in-Err-replayed-clause-kept : goal.returns-in-Err-replayed-clause-kept
returns-in-Err-replayed-clause-kept g c of =
    read_counts (g.D.Disk.told c.args.disk) (g.D.Disk.told c.give_back.result) c.in-Ok.wal.base c.in-Ok.wal.durable c.in-Ok.ensures.counts
    (c.give_back.ensures.counts c.in-Ok.ensures.ok.1)

pub returns-in-Err-replayed-clause-leaves_refused : goal.returns-in-Err-replayed-clause-leaves_refused
returns-in-Err-replayed-clause-leaves_refused g c file told only =
    subst (λ x. AtAnyMoment g.D.Disk.clock g.D.Disk.left_since c.args.disk x (LeavesRecovery c.args.d.now file))
    (sym c.give_back.ensures.disk)
    (leaves_attached g.D.Disk.clock g.D.Disk.left_since c.args.d.now file c.args.disk c.in-Ok.wal.disk
    (c.in-Ok.ensures.leaves file told only))

pub returns-in-Err-replayed-clause-moments_all_refused : goal.returns-in-Err-replayed-clause-moments_all_refused
returns-in-Err-replayed-clause-moments_all_refused g c file base version found seals told only counts =
    subst (λ x. AtAnyMoment g.D.Disk.clock g.D.Disk.left_since c.args.disk x (CountsAllRecovered c.args.d.now base version found seals))
    (sym c.give_back.ensures.disk)
    (attached_all g.D.Disk.clock g.D.Disk.left_since c.args.d.now base version found seals c.args.disk c.in-Ok.wal.disk
    (c.in-Ok.ensures.moments_all file base version found seals told only counts))

pub returns-in-Err-replayed-clause-kept_all : goal.returns-in-Err-replayed-clause-kept_all
returns-in-Err-replayed-clause-kept_all g c of =
    let wal = c.in-Ok.wal in
    read_counts_all (g.D.Disk.told c.args.disk) (g.D.Disk.told c.give_back.result) wal.base wal.version wal.durable wal.seals
    c.in-Ok.ensures.counts_all
    (subst (λ x. (file : List ℕ) → g.D.Disk.told x ≡ Some file → CountsAll file wal.base wal.version wal.durable wal.seals)
    (sym c.give_back.ensures.disk) (c.in-Err-replayed.ensures.counts_all c.in-Ok.ensures.ok.1))

-- ---- what is unfinished is ended

pub end_and_settle-requires-clause-in_step : goal.end_and_settle-requires-clause-in_step
end_and_settle-requires-clause-in_step g c =
    in_step_new c.in-Ok-replayed.state.world.events c.in-Ok.wal c.in-Ok.ensures.ok.0 c.in-Ok.ensures.ok.1 c.in-Ok.ensures.ok.2
    (same_events c.args.d.now c.in-Ok.wal c.in-Ok-replayed.state c.in-Ok-replayed.ensures.ok)

pub returns-in-Ok-end_and_settle-clause-ok : goal.returns-in-Ok-end_and_settle-clause-ok
returns-in-Ok-end_and_settle-clause-ok g c =
    recovers_file c.args.d.now c.in-Ok.wal c.in-Ok-replayed.state c.in-Ok-replayed.ensures.ok (g.D.Disk.told c.args.disk)
    c.end_and_settle.new.wal c.end_and_settle.new.state.world
    (unfinished c.in-Ok-replayed.state.world) _ c.in-Ok.ensures.counts c.in-Ok-end_and_settle.ensures.ok
    c.in-Ok-end_and_settle.ensures.durable refl
    (c.found_in-found.ensures.each ∙ c.found_in-found.ensures.unfinished) c.in-Ok.ensures.counts_all
    c.in-Ok-end_and_settle.ensures.states c.in-Ok-replayed.ensures.sealed

pub returns-in-Ok-end_and_settle-clause-idle : goal.returns-in-Ok-end_and_settle-clause-idle
returns-in-Ok-end_and_settle-clause-idle g c =
    let state = c.in-Ok-replayed.state in
    let now = c.end_and_settle.new.state in
    is_idle c.args.d.now now.design state.world.events now.world (c.end_and_settle.ensures.design ∙ c.in-Ok-replayed.ensures.ok.design)
    c.end_and_settle.ensures.kept
    (subst (λ d. IsRecovery d state.world.events now.world) (sym c.end_and_settle.ensures.design) c.in-Ok-end_and_settle.ensures.ok)

pub returns-in-Err-end_and_settle-clause-back : goal.returns-in-Err-end_and_settle-clause-back
returns-in-Err-end_and_settle-clause-back g c =
    let now = c.end_and_settle.new.state in
    settle_back c.in-Err-end_and_settle.error _ c.args.d.now (g.D.Disk.told c.args.disk) _ c.in-Err-end_and_settle.ensures.why
    (rows_on_the_way c.args.d.now c.in-Ok.wal c.in-Ok-replayed.state c.in-Ok-replayed.ensures.ok (g.D.Disk.told c.args.disk) now.design
    now.world _ c.in-Ok.ensures.counts
    c.end_and_settle.ensures.design c.end_and_settle.ensures.kept c.end_and_settle.ensures.goes c.into_parts.ensures.store)

pub returns-in-Ok-end_and_settle-clause-moments : goal.returns-in-Ok-end_and_settle-clause-moments
returns-in-Ok-end_and_settle-clause-moments g c file base found told only counts =
    let wal = c.in-Ok.wal in
    moments_all g.D.Disk.clock g.D.Disk.left_since c.args.d.now base found g.D.Disk.told g.D.Disk.may_leave file c.args.disk
    c.end_and_settle.new.wal.disk wal c.in-Ok-replayed.state
    c.in-Ok-replayed.ensures.ok counts (if_some (g.D.Disk.told c.args.disk) (λ f. Counts f wal.base wal.durable) file told
    c.in-Ok.ensures.counts)
    (c.in-Ok.ensures.moments file base found told only counts)
    (c.in-Ok.ensures.calm (calm_of (g.D.Disk.told c.args.disk) (g.D.Disk.may_leave c.args.disk) file told only))
    (c.in-Ok-replayed.ensures.counts c.in-Ok.ensures.ok.1) c.end_and_settle.ensures.moments

pub returns-in-Err-end_and_settle-clause-moments_refused : goal.returns-in-Err-end_and_settle-clause-moments_refused
returns-in-Err-end_and_settle-clause-moments_refused g c file base found told only counts =
    let wal = c.in-Ok.wal in
    let run = moments_all g.D.Disk.clock g.D.Disk.left_since c.args.d.now base found g.D.Disk.told g.D.Disk.may_leave file c.args.disk
    c.end_and_settle.new.wal.disk wal c.in-Ok-replayed.state
    c.in-Ok-replayed.ensures.ok counts (if_some (g.D.Disk.told c.args.disk) (λ f. Counts f wal.base wal.durable) file told
    c.in-Ok.ensures.counts)
    (c.in-Ok.ensures.moments file base found told only counts)
    (c.in-Ok.ensures.calm (calm_of (g.D.Disk.told c.args.disk) (g.D.Disk.may_leave c.args.disk) file told only))
    (c.in-Ok-replayed.ensures.counts c.in-Ok.ensures.ok.1) c.end_and_settle.ensures.moments in
    subst (λ x. AtAnyMoment g.D.Disk.clock g.D.Disk.left_since c.args.disk x (CountsRecovered c.args.d.now base found))
    (sym c.give_back-in-Err-end_and_settle.ensures.disk) run

pub returns-in-Err-end_and_settle-clause-unread : goal.returns-in-Err-end_and_settle-clause-unread
returns-in-Err-end_and_settle-clause-unread g c of =
    absurd (settle_read c.in-Err-end_and_settle.error _ c.in-Err-end_and_settle.ensures.why of)

pub returns-in-Err-end_and_settle-clause-calm_refused : goal.returns-in-Err-end_and_settle-clause-calm_refused
returns-in-Err-end_and_settle-clause-calm_refused g c calm of =
    absurd (settle_of_bytes c.in-Err-end_and_settle.error _ c.in-Err-end_and_settle.ensures.why of)

pub returns-in-Err-end_and_settle-clause-kept : goal.returns-in-Err-end_and_settle-clause-kept
returns-in-Err-end_and_settle-clause-kept g c of =
    absurd (settle_of_bytes c.in-Err-end_and_settle.error _ c.in-Err-end_and_settle.ensures.why of)

pub returns-in-Ok-end_and_settle-clause-leaves : goal.returns-in-Ok-end_and_settle-clause-leaves
returns-in-Ok-end_and_settle-clause-leaves g c file told only =
    let wal = c.in-Ok.wal in
    let counts = if_some (g.D.Disk.told c.args.disk) (λ f. Counts f wal.base wal.durable) file told c.in-Ok.ensures.counts in
    leaves_counted g.D.Disk.clock g.D.Disk.left_since c.args.d.now file c.args.disk c.end_and_settle.new.wal.disk wal.base wal.durable
    counts (returns-in-Ok-end_and_settle-clause-moments g c file wal.base wal.durable told only counts)

pub returns-in-Err-end_and_settle-clause-leaves_refused : goal.returns-in-Err-end_and_settle-clause-leaves_refused
returns-in-Err-end_and_settle-clause-leaves_refused g c file told only =
    let wal = c.in-Ok.wal in
    let counts = if_some (g.D.Disk.told c.args.disk) (λ f. Counts f wal.base wal.durable) file told c.in-Ok.ensures.counts in
    leaves_counted g.D.Disk.clock g.D.Disk.left_since c.args.d.now file c.args.disk c.give_back-in-Err-end_and_settle.result wal.base
    wal.durable counts (returns-in-Err-end_and_settle-clause-moments_refused g c file wal.base wal.durable told only counts)

-- ---- the states stay

pub returns-in-Ok-end_and_settle-clause-moments_all : goal.returns-in-Ok-end_and_settle-clause-moments_all
returns-in-Ok-end_and_settle-clause-moments_all g c file base version found seals told only counts =
    let wal = c.in-Ok.wal in
    states_stay g.D.Disk.clock g.D.Disk.left_since c.args.d.now base version found seals g.D.Disk.told g.D.Disk.may_leave file c.args.disk
    c.end_and_settle.new.wal.disk wal c.in-Ok-replayed.state c.in-Ok-replayed.ensures.ok counts
    (if_some (g.D.Disk.told c.args.disk) (λ f. CountsAll f wal.base wal.version wal.durable wal.seals) file told c.in-Ok.ensures.counts_all)
    (c.in-Ok.ensures.moments_all file base version found seals told only counts)
    (c.in-Ok.ensures.calm (calm_of (g.D.Disk.told c.args.disk) (g.D.Disk.may_leave c.args.disk) file told only))
    (c.in-Ok-replayed.ensures.counts_all c.in-Ok.ensures.ok.1) c.end_and_settle.ensures.moments_all

pub returns-in-Err-end_and_settle-clause-moments_all_refused : goal.returns-in-Err-end_and_settle-clause-moments_all_refused
returns-in-Err-end_and_settle-clause-moments_all_refused g c file base version found seals told only counts =
    let wal = c.in-Ok.wal in
    let run = states_stay g.D.Disk.clock g.D.Disk.left_since c.args.d.now base version found seals g.D.Disk.told g.D.Disk.may_leave file
    c.args.disk c.end_and_settle.new.wal.disk wal c.in-Ok-replayed.state c.in-Ok-replayed.ensures.ok counts
    (if_some (g.D.Disk.told c.args.disk) (λ f. CountsAll f wal.base wal.version wal.durable wal.seals) file told c.in-Ok.ensures.counts_all)
    (c.in-Ok.ensures.moments_all file base version found seals told only counts)
    (c.in-Ok.ensures.calm (calm_of (g.D.Disk.told c.args.disk) (g.D.Disk.may_leave c.args.disk) file told only))
    (c.in-Ok-replayed.ensures.counts_all c.in-Ok.ensures.ok.1) c.end_and_settle.ensures.moments_all in
    subst (λ x. AtAnyMoment g.D.Disk.clock g.D.Disk.left_since c.args.disk x (CountsAllRecovered c.args.d.now base version found seals))
    (sym c.give_back-in-Err-end_and_settle.ensures.disk) run

pub returns-in-Err-end_and_settle-clause-kept_all : goal.returns-in-Err-end_and_settle-clause-kept_all
returns-in-Err-end_and_settle-clause-kept_all g c of =
    absurd (settle_of_bytes c.in-Err-end_and_settle.error _ c.in-Err-end_and_settle.ensures.why of)
