-- What stands behind the answers of `audit`.
use Rattle.std.specs.Prelude.{◌≡◌, ◌≢◌, ◌⊎◌, ℕ, List, [], ◌∷◌, Option, Ok}
use Rattle.std.specs.Io.KnownBytes.{Appends}
use Rattle.acc_base.specs.declared.designs.Design.{Design}
use Rattle.acc_formed.specs.WellFormed.{IsWellFormed}
use Rattle.acc_io.specs.Shelves.{Told}
use Rattle.acc_io.specs.Sinks.{WritesFront}
use Rattle.acc_journalled.specs.declared.answers.Ending.TheVariants.{Done}
use Rattle.acc_commands.specs.Auditing.{ending_of}
use Rattle.acc_commands.specs.Command.TheVariants as command
use Rattle.acc_commands.specs.Files.{AreFiles}
use Rattle.acc_commands.specs.Judgement.{Judgement}
use Rattle.acc_commands.specs.JudgementLines.{judgement_line}
use Rattle.acc_commands.specs.Judging.{Judges, JudgesMeaning, IsKindToSound}
use Rattle.acc_commands.specs.Texts.{IsDesignText}
use Rattle.acc_commands.specs.Words.{files_of}
use Rattle.acc_cli.specs.Status.{code_of}
use Rattle.acc_cli.specs.declared.status.Status.TheVariants.{Ran}

-- The files spell this design, which is well-formed, and a journal of it, and this is told of the journal's events: after none of them a
-- clause is false at values of its ranges; or after the first `place` of them one is, and the values show it; or can't be told of. Where
-- the design is sound and the events are lawful, none is told to be false. The status is 0 or 7 in the first case, and else 10; the line
-- was said, or a front of it, and with 0 the whole.
pub record IsAudited (held : List ℕ → Told) (words : List (List ℕ)) (old new : Option (List ℕ)) (code : ℕ) : Type 0 where
  pub design : List ℕ
  pub journal : List ℕ
  pub given : AreFiles held (files_of command.Audit words) (design ∷ journal ∷ [])
  pub d : Design
  pub is_text : IsDesignText design d
  pub formed : IsWellFormed d
  pub judgement : Judgement
  pub judges : Judges d journal (Ok judgement)
  pub meaning : JudgesMeaning d journal (Ok judgement)
  pub kind : IsKindToSound d journal (Ok judgement)
  pub coded : (code ≡ code_of (Ran (ending_of judgement))) ⊎ ((code ≡ 7) × (ending_of judgement ≡ Done))
  pub says : code ≡ 0 → Appends old new (judgement_line judgement)
  pub front : WritesFront old new (judgement_line judgement)

-- nothing is told of events; or so
abbrev pub TellsAudit : (List ℕ → Told) → List (List ℕ) → Option (List ℕ) → Option (List ℕ) → ℕ → Type 0
TellsAudit held words old new code = ((code ≢ 0) × (code ≢ 7) × (code ≢ 10)) ⊎ IsAudited held words old new code
