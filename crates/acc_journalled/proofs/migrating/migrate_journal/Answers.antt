use Rattle.std.proofs.Common.{ℕ, List, inl, inr, length, refl, sym, ap, subst, arith}
use Rattle.std.specs.Prelude.{◌≢◌, IfOk}
use Rattle.std.proofs.lemmas.Result.{IfOk-weaker}
use Rattle.acc_disk.specs.Crashes.{IsCalm}
use Rattle.acc_disk.specs.Moments.{AtAnyMoment}
use Rattle.acc_io.specs.Causes.{Rose}
use Rattle.acc_wal.specs.Attaching.{IsOfBytes}
use Rattle.acc_wal.proofs.Moments.{read_left}
use Rattle.acc_recover.proofs.Refused.{calm_again}
use Rattle.acc_journalled.specs.declared.answers.Answer.{Answer}
use Rattle.acc_journalled.specs.declared.answers.Ending.TheVariants.{DiskFailed}
use Rattle.acc_journalled.specs.Migrating.{MigratesJournal, LeavesMigrated, BeginsWith}
use Rattle.acc_journalled.specs.Recovering.{done_with}
use Rattle.acc_journalled.specs.Tellings.{telling_of, unrun_telling}
use Rattle.acc_journalled.proofs.Endings.{recovering, making, was_there, by_unrun}
use Rattle.acc_journalled.proofs.Migrated.{base_fits, each_fits, is_some, is_short, moments_new, migrates, not_migrated, leaves_bytes}
use Rattle.acc_journalled.proofs.migrating.migrate_journal.Goals as goal

-- ---- nothing is recovered from the old bytes

pub not_recovered-requires : goal.not_recovered-requires
not_recovered-requires g c = recovering c.in-Err.error c.args.d.now _ ⊥ c.in-Err.ensures.why

pub returns-in-Err-clause-answer : goal.returns-in-Err-clause-answer
returns-in-Err-clause-answer g c =
    let told = g.D.Disk.told in
    let faults = g.D.Disk.faults in
    let R = c.unrun.result in
    by_unrun (λ x r es n. IfOk r (λ (a : Answer). MigratesJournal c.args.d.now c.args.old.now (told c.args.disk) (told x)
    (Rose (faults c.args.disk) (faults x)) (telling_of a es n))) c.args.disk R.disk c.not_recovered.result R.answer R.history R.settled
    c.unrun.ensures.disk c.unrun.ensures.answer c.unrun.ensures.none
    (IfOk-weaker c.not_recovered.result _ _
    (λ a says. inr (inl (record { error = c.in-Err.error; cause = c.in-Err.ensures.why; same = refl; says = says })))
    c.not_recovered.ensures.says)

pub returns-in-Err-clause-recorded : goal.returns-in-Err-clause-recorded
returns-in-Err-clause-recorded g c = inl c.unrun.ensures.none

pub returns-in-Err-clause-moments : goal.returns-in-Err-clause-moments
returns-in-Err-clause-moments g c file told only =
    leaves_bytes g.D.Disk.clock g.D.Disk.left_since (g.D.Disk.may_leave c.args.disk) c.args.d.now c.args.old.now file c.args.disk
    c.unrun.result.disk c.unrun.ensures.disk (g.met.D.Disk.only_now c.args.disk) only

pub returns-in-Err-clause-left : goal.returns-in-Err-clause-left
returns-in-Err-clause-left g c file told only =
    let x = c.unrun.result.disk in
    read_left g.D.Disk.clock g.D.Disk.left_since c.args.disk x (g.D.Disk.told x) (g.D.Disk.may_leave x)
    (LeavesMigrated c.args.d.now c.args.old.now file) (g.met.D.Disk.nothing_lost x)
    (λ time image le left. g.met.D.Disk.counts_now x time image le left)
    (returns-in-Err-clause-moments g c file told only)

pub returns-in-Err-clause-calm : goal.returns-in-Err-clause-calm
returns-in-Err-clause-calm g c =
    let told = g.D.Disk.told in
    let may_leave = g.D.Disk.may_leave in
    let R = c.unrun.result in
    by_unrun (λ x r es n. IfOk r (λ (a : Answer). a.ending ≢ DiskFailed → IsCalm (told c.args.disk) (may_leave c.args.disk)
    → IsCalm (told x) (may_leave x))) c.args.disk R.disk c.not_recovered.result R.answer R.history R.settled
    c.unrun.ensures.disk c.unrun.ensures.answer c.unrun.ensures.none
    (IfOk-weaker c.not_recovered.result _ _ (λ a says none calm. calm) c.not_recovered.ensures.says)

pub returns-in-Err-clause-faults : goal.returns-in-Err-clause-faults
returns-in-Err-clause-faults g c = omega (arith, ap g.D.Disk.faults c.unrun.ensures.disk)

-- ---- what a new journal asks for

pub create_with-requires-clause-base : goal.create_with-requires-clause-base
create_with-requires-clause-base g c =
    let b = c.in-Ok.beginning in
    let fits = base_fits c.args.d.now c.args.old.now b.base.items b.history b.text b.said c.in-Ok.ensures.ok b.history b.text refl refl in
    omega (arith, fits, ap length c.deref.ensures.value)

pub create_with-requires-clause-each : goal.create_with-requires-clause-each
create_with-requires-clause-each g c =
    let b = c.in-Ok.beginning in
    each_fits c.args.d.now c.args.old.now b.base.items b.history b.text b.said c.in-Ok.ensures.ok c.as_slice.result.now _ c.as_slice.ensures
    c.bytes_of.ensures c.in-Ok.ensures.accepted

pub create_with-requires-clause-some : goal.create_with-requires-clause-some
create_with-requires-clause-some g c =
    let b = c.in-Ok.beginning in
    is_some c.args.d.now c.args.old.now b.base.items b.history b.text b.said c.in-Ok.ensures.ok c.as_slice.result.now _ c.as_slice.ensures
    c.bytes_of.ensures c.in-Ok.ensures.accepted

pub create_with-requires-clause-short : goal.create_with-requires-clause-short
create_with-requires-clause-short g c =
    let b = c.in-Ok.beginning in
    is_short c.args.d.now c.args.old.now b.base.items b.history b.text b.said c.in-Ok.ensures.ok c.as_slice.result.now _ c.as_slice.ensures
    c.bytes_of.ensures c.in-Ok.ensures.accepted c.requires.short

pub same-history : goal.same-history
same-history g c = refl

-- ---- it is made

pub returns-in-Ok-create_with-clause-answer : goal.returns-in-Ok-create_with-clause-answer
returns-in-Ok-create_with-clause-answer g c =
    let b = c.in-Ok.beginning in
    let told = g.D.Disk.told in
    let made = c.in-Ok-create_with.ensures in
    inl (migrates c.args.d.now c.args.old.now c.deref.result.now b.history b.text b.said
    (subst (λ (x : List ℕ). BeginsWith c.args.d.now c.args.old.now x b.history b.text b.said) (sym c.deref.ensures.value)
    c.in-Ok.ensures.ok)
    c.as_slice.result.now _ c.as_slice.ensures c.bytes_of.ensures (told c.args.disk) (told c.give_back.result)
    (told c.in-Ok-create_with.wal.disk) (telling_of b.said b.history c.len.result) made.fresh (ap told c.give_back.ensures.disk) made.made
    refl refl refl c.len.ensures)

pub returns-in-Ok-create_with-clause-recorded : goal.returns-in-Ok-create_with-clause-recorded
returns-in-Ok-create_with-clause-recorded g c =
    let b = c.in-Ok.beginning in
    let told = g.D.Disk.told in
    let made = c.in-Ok-create_with.ensures in
    inr (
      b.said.text.items,
      migrates c.args.d.now c.args.old.now c.deref.result.now b.history b.text b.said
          (subst (λ (x : List ℕ). BeginsWith c.args.d.now c.args.old.now x b.history b.text b.said) (sym c.deref.ensures.value)
          c.in-Ok.ensures.ok)
          c.as_slice.result.now _ c.as_slice.ensures c.bytes_of.ensures (told c.args.disk) (told c.give_back.result)
          (told c.in-Ok-create_with.wal.disk) (done_with b.said.text.items b.history c.len.result) made.fresh
          (ap told c.give_back.ensures.disk) made.made (sym c.in-Ok.ensures.ok.says.0) refl refl c.len.ensures,
    )

pub returns-in-Ok-create_with-clause-moments : goal.returns-in-Ok-create_with-clause-moments
returns-in-Ok-create_with-clause-moments g c file told only =
    let b = c.in-Ok.beginning in
    subst (λ x. AtAnyMoment g.D.Disk.clock g.D.Disk.left_since c.args.disk x (LeavesMigrated c.args.d.now c.args.old.now file))
    (sym c.give_back.ensures.disk)
    (moments_new c.args.d.now c.args.old.now c.deref.result.now b.history b.text b.said
    (subst (λ (x : List ℕ). BeginsWith c.args.d.now c.args.old.now x b.history b.text b.said) (sym c.deref.ensures.value)
    c.in-Ok.ensures.ok)
    c.as_slice.result.now _ c.as_slice.ensures c.bytes_of.ensures g.D.Disk.clock g.D.Disk.left_since file c.args.disk
    c.in-Ok-create_with.wal.disk (c.in-Ok-create_with.ensures.moments file told only))

pub returns-in-Ok-create_with-clause-left : goal.returns-in-Ok-create_with-clause-left
returns-in-Ok-create_with-clause-left g c file told only =
    let x = c.give_back.result in
    read_left g.D.Disk.clock g.D.Disk.left_since c.args.disk x (g.D.Disk.told x) (g.D.Disk.may_leave x)
    (LeavesMigrated c.args.d.now c.args.old.now file) (g.met.D.Disk.nothing_lost x)
    (λ time image le left. g.met.D.Disk.counts_now x time image le left)
    (returns-in-Ok-create_with-clause-moments g c file told only)

pub returns-in-Ok-create_with-clause-calm : goal.returns-in-Ok-create_with-clause-calm
returns-in-Ok-create_with-clause-calm g c none calm =
    subst (λ x. IsCalm (g.D.Disk.told x) (g.D.Disk.may_leave x)) (sym c.give_back.ensures.disk) (c.in-Ok-create_with.ensures.calm calm)

pub returns-in-Ok-create_with-clause-faults : goal.returns-in-Ok-create_with-clause-faults
returns-in-Ok-create_with-clause-faults g c =
    omega (arith, ap g.D.Disk.faults c.give_back.ensures.disk, c.in-Ok-create_with.ensures.faults)

-- ---- it isn't made

pub not_made-requires : goal.not_made-requires
not_made-requires g c = making c.in-Err-create_with.error _ _ c.in-Err-create_with.ensures.why

pub returns-clause-answer : goal.returns-clause-answer
returns-clause-answer g c =
    let b = c.in-Ok.beginning in
    let told = g.D.Disk.told in
    let faults = g.D.Disk.faults in
    let R = c.unrun-in-Err-create_with.result in
    let E = c.in-Err-create_with in
    by_unrun (λ x r es n. IfOk r (λ (a : Answer). MigratesJournal c.args.d.now c.args.old.now (told c.args.disk) (told x)
    (Rose (faults c.args.disk) (faults x)) (telling_of a es n))) E.disk R.disk c.not_made.result R.answer R.history R.settled
    c.unrun-in-Err-create_with.ensures.disk c.unrun-in-Err-create_with.ensures.answer c.unrun-in-Err-create_with.ensures.none
    (IfOk-weaker c.not_made.result _ _
    (λ a says. not_migrated c.args.d.now c.args.old.now b.base.items b.history b.text b.said c.in-Ok.ensures.ok b.history b.text refl refl
    E.error (told c.args.disk) (told E.disk) _ (unrun_telling a) E.ensures.why (λ of. (E.ensures.refused of).0) says)
    c.not_made.ensures.says)

pub returns-clause-recorded : goal.returns-clause-recorded
returns-clause-recorded g c = inl c.unrun-in-Err-create_with.ensures.none

pub returns-clause-moments : goal.returns-clause-moments
returns-clause-moments g c file told only =
    let b = c.in-Ok.beginning in
    subst (λ x. AtAnyMoment g.D.Disk.clock g.D.Disk.left_since c.args.disk x (LeavesMigrated c.args.d.now c.args.old.now file))
    (sym c.unrun-in-Err-create_with.ensures.disk)
    (moments_new c.args.d.now c.args.old.now c.deref.result.now b.history b.text b.said
    (subst (λ (x : List ℕ). BeginsWith c.args.d.now c.args.old.now x b.history b.text b.said) (sym c.deref.ensures.value)
    c.in-Ok.ensures.ok)
    c.as_slice.result.now _ c.as_slice.ensures c.bytes_of.ensures g.D.Disk.clock g.D.Disk.left_since file c.args.disk
    c.in-Err-create_with.disk (c.in-Err-create_with.ensures.moments file told only))

pub returns-clause-left : goal.returns-clause-left
returns-clause-left g c file told only =
    let x = c.unrun-in-Err-create_with.result.disk in
    read_left g.D.Disk.clock g.D.Disk.left_since c.args.disk x (g.D.Disk.told x) (g.D.Disk.may_leave x)
    (LeavesMigrated c.args.d.now c.args.old.now file) (g.met.D.Disk.nothing_lost x)
    (λ time image le left. g.met.D.Disk.counts_now x time image le left)
    (returns-clause-moments g c file told only)

pub returns-clause-calm : goal.returns-clause-calm
returns-clause-calm g c =
    let told = g.D.Disk.told in
    let may_leave = g.D.Disk.may_leave in
    let R = c.unrun-in-Err-create_with.result in
    let E = c.in-Err-create_with in
    by_unrun (λ x r es n. IfOk r (λ (a : Answer). a.ending ≢ DiskFailed → IsCalm (told c.args.disk) (may_leave c.args.disk)
    → IsCalm (told x) (may_leave x))) E.disk R.disk c.not_made.result R.answer R.history R.settled
    c.unrun-in-Err-create_with.ensures.disk c.unrun-in-Err-create_with.ensures.answer c.unrun-in-Err-create_with.ensures.none
    (IfOk-weaker c.not_made.result _ _
    (λ a says none calm.
    let there = E.ensures.refused (subst IsOfBytes (sym (was_there E.error (unrun_telling a) says none)) tt) in
    calm_again g.D.Disk.clock g.D.Disk.left_since told may_leave c.args.disk E.disk there.0 there.1
    (λ time image le left. g.met.D.Disk.counts_now E.disk time image le left) calm)
    c.not_made.ensures.says)

pub returns-clause-faults : goal.returns-clause-faults
returns-clause-faults g c =
    omega (arith, ap g.D.Disk.faults c.unrun-in-Err-create_with.ensures.disk, c.in-Err-create_with.ensures.faults)
