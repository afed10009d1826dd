use Rattle.std.proofs.Common.{sym, subst}
use Rattle.std.specs.Prelude.{◌≢◌, IfOk}
use Rattle.std.proofs.lemmas.Result.{IfOk-weaker}
use Rattle.acc_disk.specs.Crashes.{IsCalm}
use Rattle.acc_wal.specs.Attaching.{IsOfBytes}
use Rattle.acc_recover.proofs.Refused.{calm_again}
use Rattle.acc_journalled.specs.declared.answers.Answer.{Answer}
use Rattle.acc_journalled.specs.declared.answers.Ending.TheVariants.{DiskFailed}
use Rattle.acc_journalled.specs.Tellings.{unrun_telling}
use Rattle.acc_journalled.proofs.Endings.{was_there, by_unrun}
use Rattle.acc_journalled.proofs.commands.init_journal.Goals as goal

pub returns-clause-calm : goal.returns-clause-calm
returns-clause-calm g c =
    let told = g.D.Disk.told in
    let may_leave = g.D.Disk.may_leave in
    let R = c.unrun-in-Err.result in
    by_unrun (λ x r es n. IfOk r (λ (a : Answer). a.ending ≢ DiskFailed → IsCalm (told c.args.disk) (may_leave c.args.disk)
    → IsCalm (told x) (may_leave x))) c.in-Err.disk R.disk c.not_made.result R.answer R.history R.settled
    c.unrun-in-Err.ensures.disk c.unrun-in-Err.ensures.answer c.unrun-in-Err.ensures.none
    (IfOk-weaker c.not_made.result _ _
    (λ a says none calm.
    let there = c.in-Err.ensures.refused (subst IsOfBytes (sym (was_there c.in-Err.error (unrun_telling a) says none)) tt) in
    calm_again g.D.Disk.clock g.D.Disk.left_since told may_leave c.args.disk c.in-Err.disk there.0 there.1
    (λ time image le left. g.met.D.Disk.counts_now c.in-Err.disk time image le left) calm)
    c.not_made.ensures.says)
