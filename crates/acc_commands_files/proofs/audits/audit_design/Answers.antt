use Rattle.acc_commands_files.proofs.Auditing.{is_refusal}
use Rattle.acc_commands_files.proofs.audits.audit_design.Goals as goal

pub not_judged-requires : goal.not_judged-requires
not_judged-requires g c = is_refusal c.args.d.now c.args.journal.now c.in-Err.error c.in-Err.ensures.exact
