use Rattle.std.proofs.Common.{◌≡◌, refl, subst, Result}
use Rattle.std.specs.Prelude.{◌≢◌, IfOk}
use Rattle.std.specs.declared.alloc.AllocError.{AllocError}
use Rattle.acc_disk.specs.Crashes.{IsCalm}
use Rattle.acc_commands.specs.Requests.{command_in, points_in, texts_in}
use Rattle.acc_commands.specs.Text.{IsEarly}
use Rattle.acc_commands.specs.Words.{is_journalled}
use Rattle.acc_journalled.specs.declared.answers.Answer.{Answer}
use Rattle.acc_journalled.specs.declared.answers.Ending.TheVariants.{DiskFailed}
use Rattle.acc_commands.specs.Disks.{seen}
use Rattle.acc_cli.specs.declared.status.Status.TheVariants.{Ran}
use Rattle.acc_cli.proofs.AnswerLemmas.{ends_printed, command_answered, command_lacking, refused_by, unfailed_by}
use Rattle.acc_cli.proofs.top.answer_command.Goals as goal

pub returns-in_default-clause-answered : goal.returns-in_default-clause-answered
returns-in_default-clause-answered g c =
    let told = g.D.Disk.told in
    let faults = g.D.Disk.faults in
    let request = c.args.request in
    let e = c.run-disk.result in
    rw c.lacking.ensures
    (command_lacking (is_journalled (command_in request)) (command_in request) (points_in request) (texts_in request)
    (seen (told c.args.disk) (faults c.args.disk)) (seen (told e.disk) (faults e.disk)) e.answer e.history e.settled _ _ _ c.in_default.is
    c.run-disk.ensures.lacking)

pub returns-clause-answered : goal.returns-clause-answered
returns-clause-answered g c =
    let p = c.print_answer.ensures in
    command_answered _ _ _ _ _ _ c.run-disk.result.answer _ _ _ _ _ _ c.in-Ok.answer c.in-Ok.is c.run-disk.ensures.ends.means
    (ends_printed _ _ _ (Ran c.in-Ok.answer.ending) _ _ _ c.in-Ok.answer.text.items _ c.deref.ensures.value p.given p.front p.whole
    (λ done. (p.done done).0))

pub returns-clause-refused : goal.returns-clause-refused
returns-clause-refused g c =
    let same = c.run-disk.result.disk ≡ c.args.disk in
    refused_by _ _ _ same c.in-Ok.answer.ending refl c.print_answer.ensures.given
    (subst (λ (r : Result Answer AllocError). IfOk r (λ a. IsEarly a.ending → same)) c.in-Ok.is c.run-disk.ensures.ends.refused)

pub returns-clause-calm : goal.returns-clause-calm
returns-clause-calm g c other nine =
    let told = g.D.Disk.told in
    let may_leave = g.D.Disk.may_leave in
    let disk = c.run-disk.result.disk in
    let again = IsCalm (told c.args.disk) (may_leave c.args.disk) → IsCalm (told disk) (may_leave disk) in
    let sound : c.in-Ok.answer.ending ≢ DiskFailed → again =
    subst (λ (r : Result Answer AllocError). IfOk r (λ a. a.ending ≢ DiskFailed → again)) c.in-Ok.is c.run-disk.ensures.ends.calm in
    sound (unfailed_by _ _ _ c.in-Ok.answer.ending refl c.print_answer.ensures.given other)
