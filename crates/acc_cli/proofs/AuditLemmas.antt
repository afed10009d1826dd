-- What `audit` tells.
use Rattle.std.proofs.Common.{◌≡◌, ℕ, List, [], ◌∷◌, Option, Some, inl, inr, sym, ap, ◌∙◌, arith, ⊎_elim, subst}
use Rattle.std.specs.Prelude.{◌⊎◌, Result, Ok, Err}
use Rattle.acc_base.specs.declared.designs.Design.{Design}
use Rattle.acc_base.specs.declared.machines.Event.{Event}
use Rattle.acc_formed.specs.WellFormed.{IsWellFormed}
use Rattle.acc_io.specs.Shelves.{Told}
use Rattle.acc_io.specs.Sinks.{WritesFront}
use Rattle.std.specs.Io.KnownBytes.{Appends}
use Rattle.acc_io.specs.declared.counts.Counts.{Counts}
use Rattle.acc_journalled.specs.declared.answers.Ending.{Ending}
use Rattle.acc_journalled.specs.declared.answers.Ending.TheVariants.{Done, DesignRefused, JournalRefused}
use Rattle.acc_commands.specs.Auditing.{ending_of, SaysJudged, AuditsFiles}
use Rattle.acc_commands.specs.Command.{Command}
use Rattle.acc_commands.specs.Command.TheVariants as command
use Rattle.acc_commands.specs.Disks.{Seen}
use Rattle.acc_commands.specs.Files.{AreFiles}
use Rattle.acc_commands.specs.Judgement.{Judgement}
use Rattle.acc_commands.specs.JudgementLines.{judgement_line}
use Rattle.acc_commands.specs.JudgeError.{JudgeError}
use Rattle.acc_commands.specs.Judging.{Judges}
use Rattle.acc_commands.specs.Means.{MeansOfFiles}
use Rattle.acc_commands.specs.Text.{Said, Says}
use Rattle.acc_commands.specs.Texts.{IsDesignText}
use Rattle.acc_commands.specs.Words.{command_of, files_of, points_of, is_over_journal}
use Rattle.acc_commands.proofs.Auditing.{refused_ending}
use Rattle.acc_commands.proofs.JournalEndings.{refusal_ends}
use Rattle.acc_commands.proofs.Judged.{judging_means, kind_judgement}
use Rattle.acc_cli.specs.Answered.{Answered, Ends}
use Rattle.acc_cli.specs.Audits.{TellsAudit}
use Rattle.acc_cli.specs.Meant.{MeansForm, Meant}
use Rattle.acc_cli.specs.Replies.{Reply}
use Rattle.acc_cli.specs.Status.{code_of}
use Rattle.acc_cli.specs.declared.status.Status.{Status}
use Rattle.acc_cli.specs.declared.status.Status.TheVariants.{File, Sink, Ran}
use Rattle.acc_cli.proofs.StatusLemmas.{zero_is_done}

-- the design or the journal stood against it
abbrev pub IsRefused : Ending → Type 0
IsRefused ending = (ending ≡ DesignRefused) ⊎ (ending ≡ JournalRefused)

module _ (held : List ℕ → Told) (words : List (List ℕ)) where
  -- the files are given, and the journal is judged by the design
  record HasJudged (said : Said) : Type 0 where
    design : List ℕ
    journal : List ℕ
    given : AreFiles held (files_of command.Audit words) (design ∷ journal ∷ [])
    d : Design
    is_text : IsDesignText design d
    formed : IsWellFormed d
    judgement : Judgement
    judges : Judges d journal (Ok judgement)
    says : Says (ending_of judgement) (judgement_line judgement) said

  of_files : (design journal : List ℕ) (said : Said) → AreFiles held (files_of command.Audit words) (design ∷ journal ∷ [])
      → AuditsFiles design journal said → IsRefused said.ending ⊎ HasJudged said
  of_files design journal said given (inl h) = inl (inl (refusal_ends design said h))
  of_files design journal said given (inr h) = by h.audit.told h.audit.judges h.audit.says
    where
      by : (told : Result Judgement JudgeError) → Judges h.d journal told → SaysJudged told said → IsRefused said.ending ⊎ HasJudged said
      by (Ok judgement) judges says = inr (record {
        design = design;
        journal = journal;
        given = given;
        d = h.d;
        is_text = h.is_text;
        formed = h.formed;
        judgement = judgement;
        judges = judges;
        says = says;
      })
      by (Err error) judges says = inl (inr (refused_ending error said says))

  of_command : (points files : List (List ℕ)) (said : Said) → AreFiles held (files_of command.Audit words) files
      → MeansOfFiles command.Audit points files said → IsRefused said.ending ⊎ HasJudged said
  unfolding MeansOfFiles
  of_command points [] said given h = absurd h
  of_command points (design ∷ []) said given h = absurd h
  of_command points (design ∷ journal ∷ []) said given h = of_files design journal said given h
  of_command points (design ∷ journal ∷ more ∷ rest) said given h = absurd h

  -- ---- the program's answer

  module _ (old new : Option (List ℕ)) (fault : Type 0) (status : Status) (history : List Event) (settled : ℕ) where
    abbrev Tells : Type 0
    Tells = TellsAudit held words old new (code_of status)

    -- under one of these statuses nothing is told of events
    untold : (code_of status ≡ 2) ⊎ (code_of status ≡ 4) ⊎ (code_of status ≡ 6) ⊎ (code_of status ≡ 9) → Tells
    untold code =
        inl (λ e. absurd (omega (arith, code, e)), λ e. absurd (omega (arith, code, e)), λ e. absurd (omega (arith, code, e)))

    module _ (meant : Reply) (ends : Ends meant old new fault status history settled) where
      refused_told : (ending : Ending) → meant.status ≡ Ran ending → IsRefused ending → Tells
      refused_told ending is which = untold (by ends.given_is which)
        where
          by : (status ≡ meant.status) ⊎ ((meant.status ≡ Ran Done) × (status ≡ Sink) × fault) → IsRefused ending
              → (code_of status ≡ 2) ⊎ (code_of status ≡ 4) ⊎ (code_of status ≡ 6) ⊎ (code_of status ≡ 9)
          by (inl same) (inl design) = inl (ap code_of (same ∙ is ∙ ap Ran design))
          by (inl same) (inr journal) = inr (inl (ap code_of (same ∙ is ∙ ap Ran journal)))
          by (inr sunk) (inl design) = (let e : Ran DesignRefused ≡ Ran Done = ap Ran (sym design) ∙ sym is ∙ sunk.0 in absurd cc)
          by (inr sunk) (inr journal) = (let e : Ran JournalRefused ≡ Ran Done = ap Ran (sym journal) ∙ sym is ∙ sunk.0 in absurd cc)

      judged_told : (ending : Ending) → meant.status ≡ Ran ending
          → HasJudged (record { ending = ending; text = meant.text; history = meant.history }) → Tells
      judged_told ending is j = inr (record {
        design = j.design;
        journal = j.journal;
        given = j.given;
        d = j.d;
        is_text = j.is_text;
        formed = j.formed;
        judgement = j.judgement;
        judges = j.judges;
        meaning = judging_means j.d j.journal (Ok j.judgement) j.formed j.judges;
        kind = kind_judgement j.d j.journal (Ok j.judgement) j.formed j.judges;
        coded = coded ends.given_is;
        says = λ zero. subst (Appends old new) j.says.1 (ends.done (zero_is_done status zero));
        front = subst (WritesFront old new) j.says.1 ends.front;
      })
        where
          same_ending : (a b : Ending) → Ran a ≡ Ran b → a ≡ b
          same_ending a b e = cc

          coded : (status ≡ meant.status) ⊎ ((meant.status ≡ Ran Done) × (status ≡ Sink) × fault)
              → (code_of status ≡ code_of (Ran (ending_of j.judgement))) ⊎ ((code_of status ≡ 7) × (ending_of j.judgement ≡ Done))
          coded (inl same) = inl (ap code_of (same ∙ is ∙ ap Ran j.says.0))
          coded (inr sunk) = inr (ap code_of sunk.1, sym j.says.0 ∙ same_ending ending Done (sym is ∙ sunk.0))

    of_form : (counts counts' : Counts) (disk disk' : Seen) (meant : Reply)
        → MeansForm held counts counts' disk disk' words (Some command.Audit) meant → Ends meant old new fault status history settled
        → Tells
    of_form counts counts' disk disk' meant (inl refused) ends = untold (by ends.given_is)
      where
        by : (status ≡ meant.status) ⊎ ((meant.status ≡ Ran Done) × (status ≡ Sink) × fault)
            → (code_of status ≡ 2) ⊎ (code_of status ≡ 4) ⊎ (code_of status ≡ 6) ⊎ (code_of status ≡ 9)
        by (inl same) = inr (inr (inl (ap code_of (same ∙ refused.0))))
        by (inr sunk) = (let e : File ≡ Ran Done = sym refused.0 ∙ sunk.0 in absurd cc)
    of_form counts counts' disk disk' meant (inr (files, given, counted, (ending, is, means))) ends =
        ⊎_elim (refused_told meant ends ending is) (judged_told meant ends ending is)
        (of_command (points_of command.Audit words) files
        (record { ending = ending; text = meant.text; history = meant.history }) given means.2)

    pub tells_audit : (counts counts' : Counts) (disk disk' : Seen) → command_of words ≡ Some command.Audit
        → Answered (is_over_journal (command_of words)) (Meant held counts counts' disk disk' words) old new fault status history settled
        → Tells
    tells_audit counts counts' disk disk' form (inl none) = untold (inr (inr (inr (ap code_of none.0))))
    tells_audit counts counts' disk disk' form (inr (meant, means, ends)) =
        of_form counts counts' disk disk' meant
        (subst (λ (o : Option Command). MeansForm held counts counts' disk disk' words o meant) form means) ends
