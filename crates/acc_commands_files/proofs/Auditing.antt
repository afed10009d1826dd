-- A journal that isn't judged isn't recovered, for such a cause; and how a command ends then.
use Rattle.std.proofs.Common.{◌≡◌, ℕ, List}
use Rattle.std.specs.Prelude.{Err}
use Rattle.acc_base.specs.declared.designs.Design.{Design}
use Rattle.acc_commands_inputs.specs.Text.{Said}
use Rattle.acc_journalled.specs.declared.answers.Ending.TheVariants.{JournalRefused}
use Rattle.acc_journalled.specs.Recovering.{IsRecoverError}
use Rattle.acc_audit_journal.specs.Judging.{Judges}
use Rattle.acc_audit_journal.specs.declared.journals.JudgeError.{JudgeError}
use Rattle.acc_audit_journal.specs.declared.journals.JudgeError.TheVariants.{Journal, OtherDesign, NotRun, Memory}
use Rattle.acc_wal.specs.declared.errors.WalError.TheVariants as wal
use Rattle.acc_commands_files.specs.Auditing.{refusal_of, SaysJudged}

pub is_refusal : (d : Design) (journal : List ℕ) (error : JudgeError) → Judges d journal (Err error) → IsRecoverError (refusal_of error)
is_refusal d journal (Journal wal.NotJournal) h = tt
is_refusal d journal (Journal (wal.OtherVersion version)) h = tt
is_refusal d journal (Journal (wal.Damaged place)) h = tt
is_refusal d journal (Journal wal.Exists) h = absurd h
is_refusal d journal (Journal wal.Disk) h = absurd h
is_refusal d journal (Journal wal.Spent) h = absurd h
is_refusal d journal (Journal wal.Memory) h = absurd h
is_refusal d journal OtherDesign h = tt
is_refusal d journal (NotRun at) h = tt
is_refusal d journal Memory h = tt

pub refused_ending : (error : JudgeError) (said : Said) → SaysJudged (Err error) said → said.ending ≡ JournalRefused
refused_ending (Journal wal.NotJournal) said h = h.0
refused_ending (Journal (wal.OtherVersion version)) said h = h.0
refused_ending (Journal (wal.Damaged place)) said h = h.0
refused_ending (Journal wal.Exists) said h = absurd h
refused_ending (Journal wal.Disk) said h = absurd h
refused_ending (Journal wal.Spent) said h = absurd h
refused_ending (Journal wal.Memory) said h = absurd h
refused_ending OtherDesign said h = h.0
refused_ending (NotRun at) said h = h.0
refused_ending Memory said h = absurd h
