use Rattle.std.proofs.Common.{inr}
use Rattle.acc_io.specs.Causes.{Rose}
use Rattle.acc_commands_journals.specs.RunFiles.{WorksSeen}
use Rattle.acc_commands_journals.proofs.Disks.{ends_late}
use Rattle.acc_commands_journals.proofs.JournalEndings.{works_late}
use Rattle.acc_commands_journals.proofs.runs.run_workers.Goals as goal

pub returns : goal.returns
returns g c =
    let d = c.args.accepted.now in
    let asked = c.args.asked in
    let run = c.work_journal.ensures in
    ends_late (WorksSeen d asked) (WorksSeen d asked)
    (λ old new t. works_late d asked old.told new.told (Rose old.faults new.faults) t) (λ old new t ends. ends) run.answer (inr run.runs)
    run.calm run.faults
