use Rattle.acc_audit_journal.proofs.Judged.{judging_means, kind_judgement}
use Rattle.acc_audit_journal.proofs.laws.judgements_mean.Goals as goal

pub returns : goal.returns
returns c d bytes told formed h = (judging_means d bytes told formed h, kind_judgement d bytes told formed h)
