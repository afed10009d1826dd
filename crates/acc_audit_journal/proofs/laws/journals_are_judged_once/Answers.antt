use Rattle.acc_audit_journal.proofs.OneJudgement.{one_judgement}
use Rattle.acc_audit_journal.proofs.laws.journals_are_judged_once.Goals as goal

pub returns : goal.returns
returns c = one_judgement
