-- What `verify` tells.
use Rattle.std.proofs.Common.{◌≡◌, ℕ, Bool, List, [], ◌∷◌, Option, Some, inl, inr, sym, ap, subst, ◌∙◌, arith, ⊎_elim}
use Rattle.std.specs.Prelude.{◌≢◌, ◌⊎◌}
use Rattle.acc_base.specs.declared.designs.Design.{Design}
use Rattle.acc_base.specs.declared.machines.Event.{Event}
use Rattle.acc_io.specs.Causes.{Rose}
use Rattle.acc_io.specs.Shelves.{Told}
use Rattle.acc_io.specs.declared.counts.Counts.{Counts}
use Rattle.tpcc_tables.specs.Schema.{IsSchemaOf}
use Rattle.tpcc_tables.specs.declared.tables.TableSet.{TableSet}
use Rattle.acc_recover.specs.Refusals.{RefusesRecovery}
use Rattle.acc_recover.specs.declared.errors.RecoverError.{RecoverError}
use Rattle.acc_journalled.specs.declared.answers.Ending.{Ending}
use Rattle.acc_journalled.specs.declared.answers.Ending.TheVariants.{Done, DesignRefused, JournalRefused, DiskFailed, ConditionFalse}
use Rattle.acc_journalled.specs.Conditions.{AreConsistent, EndsByRows}
use Rattle.acc_journalled.specs.Recovering.{SaysNotRecovered}
use Rattle.acc_journalled.specs.Tellings.{Telling}
use Rattle.acc_journalled.specs.Verifying.{Verifies, VerifiesJournal}
use Rattle.acc_commands.specs.Admissions.{IsAcceptedWith}
use Rattle.acc_commands.specs.Command.{Command}
use Rattle.acc_commands.specs.Command.TheVariants as command
use Rattle.acc_commands.specs.Disks.{Seen}
use Rattle.acc_commands.specs.Files.{AreFiles}
use Rattle.acc_commands.specs.Means.{MeansOverDisk}
use Rattle.acc_commands.specs.Text.{said_in}
use Rattle.acc_commands.specs.Texts.{IsDesignText}
use Rattle.acc_commands.specs.VerifyFiles.{VerifiesSchema, VerifiesCertified, VerifiesFiles}
use Rattle.acc_commands.specs.Words.{command_of, files_of}
use Rattle.acc_commands.proofs.JournalEndings.{EndsOver, refusal_ends, refusal_tells_none, unrecovered_ends}
use Rattle.acc_cli.specs.declared.status.Status.{Status}
use Rattle.acc_cli.specs.declared.status.Status.TheVariants.{File, Sink, Ran}
use Rattle.acc_cli.specs.Replies.{Reply}
use Rattle.acc_cli.specs.Status.{code_of}
use Rattle.acc_cli.specs.Meant.{MeansForm, Meant}
use Rattle.acc_cli.specs.Answered.{Answered, Ends}
use Rattle.acc_cli.specs.Recoveries.{IsBroken}
use Rattle.acc_cli.specs.Verifications.{IsVerified, TellsVerification}
use Rattle.acc_cli.proofs.RecoveryLemmas.{unrecovered_none}
use Rattle.acc_cli.proofs.StatusLemmas.{zero_is_done}

-- ---- what is refused tells no history

-- the design, the journal or the disk stood against it, and no history is told
abbrev IsRefused : Telling → Type 0
IsRefused t = ((t.ending ≡ DesignRefused) ⊎ (t.ending ≡ JournalRefused) ⊎ (t.ending ≡ DiskFailed)) × (t.history ≡ []) × (t.settled ≡ 0)

unrecovered : (error : RecoverError) (d : Design) (told : Option (List ℕ)) (fault : Type 0) (t : Telling)
    → RefusesRecovery d error told fault → SaysNotRecovered error t → IsRefused t
unrecovered error d told fault t why says =
    let none = unrecovered_none error t says in
    (by none.0 (unrecovered_ends error d told fault t why says), none.1, none.2)
  where
    by : t.ending ≢ Done → EndsOver fault t → (t.ending ≡ DesignRefused) ⊎ (t.ending ≡ JournalRefused) ⊎ (t.ending ≡ DiskFailed)
    by other (inl is) = absurd (other is)
    by other (inr (inl is)) = inr (inl is)
    by other (inr (inr is)) = inr (inr is.0)

-- its status is neither that of what is done nor that of a condition that is false
refused_code : (ending : Ending) → (ending ≡ DesignRefused) ⊎ (ending ≡ JournalRefused) ⊎ (ending ≡ DiskFailed)
    → (code_of (Ran ending) ≡ 2) ⊎ (code_of (Ran ending) ≡ 4) ⊎ (code_of (Ran ending) ≡ 5)
refused_code ending (inl is) = inl (ap (λ (e : Ending). code_of (Ran e)) is)
refused_code ending (inr (inl is)) = inr (inl (ap (λ (e : Ending). code_of (Ran e)) is))
refused_code ending (inr (inr is)) = inr (inr (ap (λ (e : Ending). code_of (Ran e)) is))

same_code : (a b : ℕ) → a ≡ b → (b ≡ 2) ⊎ (b ≡ 4) ⊎ (b ≡ 5) → (a ≡ 2) ⊎ (a ≡ 4) ⊎ (a ≡ 5) ⊎ (a ≡ 6)
same_code a b same (inl is) = inl (same ∙ is)
same_code a b same (inr (inl is)) = inr (inl (same ∙ is))
same_code a b same (inr (inr is)) = inr (inr (inl (same ∙ is)))

-- ---- what is verified

module _ (held : List ℕ → Told) (words : List (List ℕ)) (disk disk' : Seen) (old new : Option (List ℕ)) where
  -- the files are given, the design is accepted and has TPC-C's tables, and this is said of its journal
  record IsJudged (t : Telling) : Type 0 where
    design : List ℕ
    certificate : List ℕ
    given : AreFiles held (files_of command.Verify words) (design ∷ certificate ∷ [])
    d : Design
    is_text : IsDesignText design d
    accepted : IsAcceptedWith d certificate
    tables : TableSet
    schema : IsSchemaOf tables d
    verified : Verifies tables d disk.told disk'.told t

  -- it is refused, or it is judged, or the disk failed behind the recovery
  abbrev OfTelling : Telling → Type 0
  OfTelling t = IsRefused t ⊎ IsJudged t ⊎ (t.ending ≡ DiskFailed)

  of_files : (design certificate : List ℕ) (t : Telling) → AreFiles held (files_of command.Verify words) (design ∷ certificate ∷ [])
      → VerifiesFiles design certificate disk disk' t → OfTelling t
  of_files design certificate t given (inl h) =
      inl (inl (refusal_ends design (said_in t) h.2), refusal_tells_none design (said_in t) h.2, h.0)
  of_files design certificate t given (inr h) = certified h.says
    where
      over : IsAcceptedWith h.d certificate → (s : TableSet) → IsSchemaOf s h.d
          → VerifiesJournal s h.d disk.told disk'.told (Rose disk.faults disk'.faults) t → OfTelling t
      over accepted s schema (inl v) = inr (inl (record {
        design = design;
        certificate = certificate;
        given = given;
        d = h.d;
        is_text = h.is_text;
        accepted = accepted;
        tables = s;
        schema = schema;
        verified = v;
      }))
      over accepted s schema (inr (inl r)) = inl (unrecovered r.error h.d disk.told (Rose disk.faults disk'.faults) t r.cause r.says)
      over accepted s schema (inr (inr f)) = inr (inr f.says.0)

      by_tables : IsAcceptedWith h.d certificate → VerifiesSchema h.d disk disk' t → OfTelling t
      by_tables accepted (inl r) = inl (inl r.2.says.0, r.2.says.2, r.0)
      by_tables accepted (inr r) = over accepted r.tables r.schema r.ends

      certified : VerifiesCertified h.d certificate disk disk' t → OfTelling t
      certified (inl r) = inl (inl r.2.ending, r.2.history, r.0)
      certified (inr r) = by_tables r.accepted r.says

  of_command : (files : List (List ℕ)) (t : Telling) → AreFiles held (files_of command.Verify words) files
      → MeansOverDisk command.Verify files disk disk' t → OfTelling t
  unfolding MeansOverDisk
  of_command [] t given h = absurd h
  of_command (design ∷ []) t given h = absurd h
  of_command (design ∷ certificate ∷ []) t given h = of_files design certificate t given h
  of_command (design ∷ certificate ∷ more ∷ rest) t given h = absurd h

  -- ---- the program's answer

  module _ (Stops : Type 0) (fault : Type 0) (status : Status) (history : List Event) (settled : ℕ) (lacking : IsBroken (code_of status)
      → ((history ≡ []) × (settled ≡ 0)) ⊎ IsVerified held words disk.told disk'.told old new (code_of status) history settled ⊎ Stops)
    where
      abbrev Tells : Type 0
      Tells = TellsVerification held words disk.told disk'.told old new (code_of status) history settled Stops

      -- the call broke off
      broken_told : IsBroken (code_of status) → Tells
      broken_told code = by (lacking code)
        where
          by : ((history ≡ []) × (settled ≡ 0)) ⊎ IsVerified held words disk.told disk'.told old new (code_of status) history settled ⊎ Stops
              → Tells
          by (inl untold) =
              inl (
                λ e. absurd (omega (arith, code, e)),
                λ e. absurd (omega (arith, code, e)),
                λ e. absurd (omega (arith, code, e)),
                untold.0,
                untold.1,
              )
          by (inr (inl told)) = inr (inl told)
          by (inr (inr stops)) = inr (inr (code, stops))

      -- no history is told under one of these statuses
      untold : (code_of status ≡ 2) ⊎ (code_of status ≡ 4) ⊎ (code_of status ≡ 5) ⊎ (code_of status ≡ 6) → history ≡ [] → settled ≡ 0
          → Tells
      untold code none zero =
          inl (λ e. absurd (omega (arith, code, e)), λ e. absurd (omega (arith, code, e)), λ e. absurd (omega (arith, code, e)), none, zero)

      module _ (meant : Reply) (ends : Ends meant old new fault status history settled) where
        refused_told : (ending : Ending) → meant.status ≡ Ran ending
            → IsRefused (record { ending = ending; text = meant.text; history = meant.history; settled = meant.settled }) → Tells
        refused_told ending is refused =
            untold (by ends.given_is) (ends.history_is ∙ refused.1) (ends.settled_is ∙ refused.2)
          where
            by : (status ≡ meant.status) ⊎ ((meant.status ≡ Ran Done) × (status ≡ Sink) × fault)
                → (code_of status ≡ 2) ⊎ (code_of status ≡ 4) ⊎ (code_of status ≡ 5) ⊎ (code_of status ≡ 6)
            by (inl same) = same_code (code_of status) (code_of (Ran ending)) (ap code_of (same ∙ is)) (refused_code ending refused.0)
            by (inr sunk) =
                let done : Ran ending ≡ Ran Done = sym is ∙ sunk.0 in
                let which = refused_code ending refused.0 in
                let zero : code_of (Ran ending) ≡ 0 = ap code_of done in absurd (omega (arith, which, zero))

        -- the number of the status, where all is true and where something isn't
        done_code : meant.status ≡ Ran Done → (code_of status ≡ 0) ⊎ (code_of status ≡ 7)
        done_code is = ⊎_elim (λ same. inl (ap code_of (same ∙ is))) (λ sunk. inr (ap code_of sunk.1)) ends.given_is

        false_code : meant.status ≡ Ran ConditionFalse → code_of status ≡ 10
        false_code is =
            ⊎_elim (λ same. ap code_of (same ∙ is)) (λ sunk. let e : Ran ConditionFalse ≡ Ran Done = sym is ∙ sunk.0 in absurd cc)
            ends.given_is

        module _ (ending : Ending) (is : meant.status ≡ Ran ending) (s : TableSet) (d : Design)
            (verified : Verifies s d disk.told disk'.told
            (record { ending = ending; text = meant.text; history = meant.history; settled = meant.settled })) where
          abbrev AreSo : Type 0
          AreSo = AreConsistent s verified.recovers.last.rows

          true_by : EndsByRows s verified.recovers.last.rows ending → (code_of status ≡ 0) ⊎ (code_of status ≡ 7) → AreSo
          true_by (inl e) code = e.1
          true_by (inr e) code = (let ten = false_code (is ∙ ap Ran e.0) in absurd (omega (arith, code, ten)))

          false_by : EndsByRows s verified.recovers.last.rows ending → code_of status ≡ 10 → ¬ AreSo
          false_by (inl e) ten = (let code = done_code (is ∙ ap Ran e.0) in absurd (omega (arith, code, ten)))
          false_by (inr e) ten = e.1

        judged_told : (ending : Ending) → meant.status ≡ Ran ending
            → IsJudged (record { ending = ending; text = meant.text; history = meant.history; settled = meant.settled }) → Tells
        judged_told ending is j =
            inr (inl (subst (λ h. IsVerified held words disk.told disk'.told old new (code_of status) h settled) (sym ends.history_is)
            (subst (λ n. IsVerified held words disk.told disk'.told old new (code_of status) meant.history n) (sym ends.settled_is)
            (record {
              design = j.design;
              certificate = j.certificate;
              given = j.given;
              d = j.d;
              is_text = j.is_text;
              accepted = j.accepted;
              tables = j.tables;
              schema = j.schema;
              text = meant.text;
              recovers = j.verified.recovers;
              says = λ zero. ends.done (zero_is_done status zero);
              front = λ ten. ends.front;
              all_true = true_by ending is j.tables j.d j.verified j.verified.ending;
              one_false = false_by ending is j.tables j.d j.verified j.verified.ending;
            }))))

        failed_told : (ending : Ending) → meant.status ≡ Ran ending → ending ≡ DiskFailed → Tells
        failed_told ending is failed = broken_told (inl (by ends.given_is))
          where
            by : (status ≡ meant.status) ⊎ ((meant.status ≡ Ran Done) × (status ≡ Sink) × fault) → code_of status ≡ 5
            by (inl same) = ap code_of (same ∙ is ∙ ap Ran failed)
            by (inr sunk) = (let e : Ran DiskFailed ≡ Ran Done = ap Ran (sym failed) ∙ sym is ∙ sunk.0 in absurd cc)

      of_form : (counts counts' : Counts) (meant : Reply) → MeansForm held counts counts' disk disk' words (Some command.Verify) meant
          → Ends meant old new fault status history settled → Tells
      of_form counts counts' meant (inl refused) ends =
          untold (by ends.given_is) (ends.history_is ∙ refused.1.0) (ends.settled_is ∙ refused.1.1)
        where
          by : (status ≡ meant.status) ⊎ ((meant.status ≡ Ran Done) × (status ≡ Sink) × fault)
              → (code_of status ≡ 2) ⊎ (code_of status ≡ 4) ⊎ (code_of status ≡ 5) ⊎ (code_of status ≡ 6)
          by (inl same) = inr (inr (inr (ap code_of (same ∙ refused.0))))
          by (inr sunk) = (let e : File ≡ Ran Done = sym refused.0 ∙ sunk.0 in absurd cc)
      of_form counts counts' meant (inr (files, given, counted, (ending, is, means))) ends =
          ⊎_elim (refused_told meant ends ending is) (⊎_elim (judged_told meant ends ending is) (failed_told meant ends ending is))
          (of_command files (record { ending = ending; text = meant.text; history = meant.history; settled = meant.settled }) given means)

      pub tells_verification : (over : Bool) (counts counts' : Counts) → command_of words ≡ Some command.Verify
          → Answered over (Meant held counts counts' disk disk' words) old new fault status history settled → Tells
      tells_verification over counts counts' form (inl none) = broken_told (inr (ap code_of none.0))
      tells_verification over counts counts' form (inr (meant, means, ends)) =
          of_form counts counts' meant
          (subst (λ (o : Option Command). MeansForm held counts counts' disk disk' words o meant) form means) ends
