use Rattle.std.proofs.Common.{inl, inr, ⊎_elim, sym, ◌∙◌}
use Rattle.acc_cli.proofs.AuditLemmas.{tells_audit}
use Rattle.acc_cli.proofs.FollowLemmas.{tells_following}
use Rattle.acc_cli.proofs.CauseLemmas.{causes_of}
use Rattle.acc_cli.proofs.PromiseLemmas.{promise_kept}
use Rattle.acc_cli.proofs.BenchLemmas.{tells_bench, bench_promise}
use Rattle.acc_cli.proofs.BookingLemmas.{sells_once}
use Rattle.acc_cli.proofs.CreationLemmas.{is_created}
use Rattle.acc_cli.proofs.ProvingLemmas.{is_proved}
use Rattle.acc_cli.proofs.LineLemmas.{leaves_line, runs_line, works_line, tells_somehow, verified_somehow, migrated_somehow}
use Rattle.acc_cli.proofs.MigrationLemmas.{tells_migration}
use Rattle.acc_cli.proofs.RecoveryLemmas.{tells_recovery, left_refused}
use Rattle.acc_cli.proofs.SealedLemmas.{tells_sealed}
use Rattle.acc_cli.proofs.VerificationLemmas.{tells_verification}
use Rattle.acc_cli.proofs.StatusLemmas.{zero_is_done, seven_is_sink, four_is_refused}
use Rattle.acc_cli.proofs.top.acc.Goals as goal

pub returns-clause-answered : goal.returns-clause-answered
returns-clause-answered g c = record {
  status = c.answer_line-closed.result.status;
  coded = c.code.ensures;
  holds = c.answer_line-closed.ensures.answered;
}

pub returns-clause-causes : goal.returns-clause-causes
returns-clause-causes g c = record {
  status = c.answer_line-closed.result.status;
  coded = c.code.ensures;
  holds = causes_of _ _ _ _ _ _ _ _ _ _ _ _ _ c.answer_line-closed.ensures.answered;
}

pub returns-clause-promise : goal.returns-clause-promise
returns-clause-promise g c is = promise_kept _ _ _ _ _ _ _ _ _ _ _ _ is c.answer_line-closed.ensures.answered

pub returns-clause-clean : goal.returns-clause-clean
returns-clause-clean g c h = c.answer_line-closed.ensures.clean (zero_is_done c.answer_line-closed.result.status (sym c.code.ensures ∙ h))

pub returns-clause-created : goal.returns-clause-created
returns-clause-created g c is zero =
    is_created _ _ _ _ _ _ _ _ _ _ _ _ _ is (zero_is_done c.answer_line-closed.result.status (sym c.code.ensures ∙ zero))
    c.answer_line-closed.ensures.answered

pub returns-clause-proved : goal.returns-clause-proved
returns-clause-proved g c is zero =
    is_proved _ _ _ _ _ _ _ _ _ _ _ _ _ is (zero_is_done c.answer_line-closed.result.status (sym c.code.ensures ∙ zero))
    c.answer_line-closed.ensures.answered

pub returns-clause-recovered : goal.returns-clause-recovered
returns-clause-recovered g c command wanted is by =
    rw c.code.ensures
    (tells_recovery _ _ command wanted _ _ _ _ _ _ _ _ _ by
    (λ unsaid. tells_somehow g.D.Disk.clock g.D.Disk.left_since g.D.Disk.told g.D.Disk.may_leave g.D.Disk.faults _ _ c.args.disk
    c.answer_line-closed.result.disk _ _ _ _ _ unsaid command wanted is by c.answer_line-closed.ensures.leaves)
    _ _ _ is c.answer_line-closed.ensures.answered)

pub returns-clause-verified : goal.returns-clause-verified
returns-clause-verified g c is =
    rw c.code.ensures
    (tells_verification _ _ _ _ _ _ _ _ _ _ _
    (λ broken. verified_somehow g.D.Disk.clock g.D.Disk.left_since g.D.Disk.told g.D.Disk.may_leave g.D.Disk.faults _ _ c.args.disk
    c.answer_line-closed.result.disk _ _ _ _ _ broken is c.answer_line-closed.ensures.leaves)
    _ _ _ is c.answer_line-closed.ensures.answered)

pub returns-clause-sealed : goal.returns-clause-sealed
returns-clause-sealed g c command is recovers =
    rw c.code.ensures (tells_sealed _ _ command recovers _ _ _ _ _ _ _ _ _ _ _ is c.answer_line-closed.ensures.answered)

pub returns-clause-migrated : goal.returns-clause-migrated
returns-clause-migrated g c is =
    rw c.code.ensures
    (tells_migration _ _ _ _ _ _ _ _ _ _ _ _ _ is
    (λ unsaid. migrated_somehow g.D.Disk.clock g.D.Disk.left_since g.D.Disk.told g.D.Disk.may_leave g.D.Disk.faults _ _ c.args.disk
    c.answer_line-closed.result.disk _ _ _ _ _ unsaid is c.answer_line-closed.ensures.leaves)
    c.answer_line-closed.ensures.answered)

pub returns-clause-booked : goal.returns-clause-booked
returns-clause-booked g c is through =
    sells_once _ _ _ _ _ _ _ _ _ _ c.answer_line-closed.result.status _ _ is
    (⊎_elim (λ zero. inl (zero_is_done c.answer_line-closed.result.status (sym c.code.ensures ∙ zero)))
    (λ seven. inr (seven_is_sink c.answer_line-closed.result.status (sym c.code.ensures ∙ seven))) through)
    c.answer_line-closed.ensures.answered

pub returns-clause-benched : goal.returns-clause-benched
returns-clause-benched g c mix is =
    rw c.code.ensures (tells_bench _ _ mix _ _ _ _ _ _ _ _ _ _ is c.answer_line-closed.ensures.answered)

pub returns-clause-audited : goal.returns-clause-audited
returns-clause-audited g c is = rw c.code.ensures (tells_audit _ _ _ _ _ _ _ _ _ _ _ _ is c.answer_line-closed.ensures.answered)

pub returns-clause-followed : goal.returns-clause-followed
returns-clause-followed g c size is =
    rw c.code.ensures (tells_following _ _ size _ _ _ _ _ _ _ _ _ _ is c.answer_line-closed.ensures.answered)

pub returns-clause-bench_promise : goal.returns-clause-bench_promise
returns-clause-bench_promise g c mix is =
    bench_promise _ _ mix _ _ _ _ (tells_bench _ _ mix _ _ _ _ _ _ _ _ _ _ is c.answer_line-closed.ensures.answered)

pub returns-clause-unchanged : goal.returns-clause-unchanged
returns-clause-unchanged g c four =
    left_refused _ _ _ _ _ _
    ((causes_of _ _ _ _ _ _ _ _ _ _ _ _ _ c.answer_line-closed.ensures.answered).journal
    (four_is_refused c.answer_line-closed.result.status (sym c.code.ensures ∙ four)))

pub returns-clause-runs : goal.returns-clause-runs
returns-clause-runs g c is =
    runs_line g.D.Disk.clock g.D.Disk.left_since g.D.Disk.told g.D.Disk.may_leave g.D.Disk.faults _ _ c.args.disk c.answer_line-closed.result.disk _ _ is
    c.answer_line-closed.ensures.leaves

pub returns-clause-works : goal.returns-clause-works
returns-clause-works g c workers is =
    works_line g.D.Disk.clock g.D.Disk.left_since g.D.Disk.told g.D.Disk.may_leave g.D.Disk.faults _ _ c.args.disk c.answer_line-closed.result.disk _ _
    workers is c.answer_line-closed.ensures.leaves

pub returns-clause-crash : goal.returns-clause-crash
returns-clause-crash g c file is only =
    (leaves_line g.D.Disk.clock g.D.Disk.left_since g.D.Disk.told g.D.Disk.may_leave g.D.Disk.faults _ _ c.args.disk c.answer_line-closed.result.disk _ _
    (g.met.D.Disk.only_now c.args.disk) c.answer_line-closed.ensures.leaves).moments file is only

pub returns-clause-left : goal.returns-clause-left
returns-clause-left g c file is only =
    (leaves_line g.D.Disk.clock g.D.Disk.left_since g.D.Disk.told g.D.Disk.may_leave g.D.Disk.faults _ _ c.args.disk c.answer_line-closed.result.disk _ _
    (g.met.D.Disk.only_now c.args.disk) c.answer_line-closed.ensures.leaves).left file is only
