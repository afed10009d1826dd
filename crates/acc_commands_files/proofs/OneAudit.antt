-- `audit` says one thing of its design and journal.
use Rattle.std.proofs.Common.{◌≡◌, ℕ, List, inl, inr, refl, sym, ap, subst, ◌∙◌, ⊎_elim}
use Rattle.std.specs.Prelude.{Result, Ok, Err}
use Rattle.acc_base.specs.declared.designs.Design.{Design}
use Rattle.acc_commands_inputs.specs.Text.{Said}
use Rattle.acc_commands_inputs.proofs.OneDesign.{said_same, one_design, one_refusal, formed_or_refused}
use Rattle.acc_journalled.specs.declared.answers.Ending.{Ending}
use Rattle.acc_journalled.specs.Recovering.{SaysNotRead}
use Rattle.acc_journalled.specs.Tellings.{Says}
use Rattle.acc_audit_journal.specs.JudgementLines.{judgement_line}
use Rattle.acc_audit_journal.specs.declared.journals.Judgement.{Judgement}
use Rattle.acc_audit_journal.specs.declared.journals.JudgeError.{JudgeError}
use Rattle.acc_audit_journal.specs.declared.journals.JudgeError.TheVariants.{Journal, OtherDesign, NotRun, Memory}
use Rattle.acc_audit_journal.proofs.OneJudgement.{one_judgement}
use Rattle.acc_wal.specs.declared.errors.WalError.{WalError}
use Rattle.acc_wal.specs.declared.errors.WalError.TheVariants as wal
use Rattle.acc_commands_files.specs.Auditing.{ending_of, telling_alone, SaysJudged, SaysAudit, AuditsFiles}

pub alone_same : (ending : Ending) (text : List ℕ) (a b : Said) → Says ending text (telling_alone a) → Says ending text (telling_alone b) → a ≡ b
alone_same ending text a b h k = said_same ending text text a b refl (h.0, h.1, h.2) (k.0, k.1, k.2)

one_not_read : (why : WalError) (a b : Said) → SaysNotRead why (telling_alone a) → SaysNotRead why (telling_alone b) → a ≡ b
one_not_read wal.NotJournal a b h k = alone_same _ _ a b h k
one_not_read (wal.OtherVersion version) a b h k = alone_same _ _ a b h k
one_not_read (wal.Damaged place) a b h k = alone_same _ _ a b h k
one_not_read wal.Exists a b h k = absurd h
one_not_read wal.Disk a b h k = absurd h
one_not_read wal.Spent a b h k = absurd h
one_not_read wal.Memory a b h k = absurd h

one_of_told : (told : Result Judgement JudgeError) (a b : Said) → SaysJudged told a → SaysJudged told b → a ≡ b
one_of_told (Ok judgement) a b h k = said_same (ending_of judgement) (judgement_line judgement) (judgement_line judgement) a b refl h k
one_of_told (Err (Journal why)) a b h k = one_not_read why a b h k
one_of_told (Err OtherDesign) a b h k = alone_same _ _ a b h k
one_of_told (Err (NotRun at)) a b h k = alone_same _ _ a b h k
one_of_told (Err Memory) a b h k = absurd h

-- want of memory says nothing
pub says_no_lack : (told : Result Judgement JudgeError) (said : Said) → SaysJudged told said → told ≡ Err Memory → ⊥
says_no_lack told said h e = subst (λ t. SaysJudged t said) e h

one_said : (d : Design) (journal : List ℕ) (a b : Said) → SaysAudit d journal a → SaysAudit d journal b → a ≡ b
one_said d journal a b h k =
    ⊎_elim (λ same. one_of_told k.told a b (subst (λ t. SaysJudged t a) same h.says) k.says)
    (λ lacks. absurd (⊎_elim (says_no_lack h.told a h.says) (says_no_lack k.told b k.says) lacks))
    (one_judgement d journal h.told k.told h.judges k.judges)

pub one_audit : (design journal : List ℕ) (a b : Said) → AuditsFiles design journal a → AuditsFiles design journal b → a ≡ b
one_audit design journal a b (inl h) (inl k) = one_refusal design a b h k
one_audit design journal a b (inl h) (inr k) = absurd (formed_or_refused design k.d a k.is_text k.formed h)
one_audit design journal a b (inr h) (inl k) = absurd (formed_or_refused design h.d b h.is_text h.formed k)
one_audit design journal a b (inr h) (inr k) =
    one_said k.d journal a b
    (subst (λ (d : Design). SaysAudit d journal a) (one_design design h.d k.d h.is_text k.is_text) h.audit) k.audit
