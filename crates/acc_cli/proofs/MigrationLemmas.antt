-- What `migrate` tells.
use Rattle.std.proofs.Common.{◌≡◌, ℕ, Bool, List, [], ◌∷◌, Option, Some, inl, inr, sym, ap, subst, ◌∙◌, refl, arith}
use Rattle.std.specs.Prelude.{◌≢◌, ◌⊎◌}
use Rattle.std.specs.Io.KnownBytes.{Appends}
use Rattle.acc_base.specs.declared.designs.Design.{Design}
use Rattle.acc_base.specs.declared.machines.Event.{Event}
use Rattle.acc_io.specs.Shelves.{Told}
use Rattle.acc_io.specs.declared.counts.Counts.{Counts}
use Rattle.acc_journalled.specs.declared.answers.Ending.{Ending}
use Rattle.acc_journalled.specs.declared.answers.Ending.TheVariants.{Done, DesignRefused, JournalRefused, DiskFailed}
use Rattle.acc_journalled.specs.Tellings.{Telling}
use Rattle.acc_commands.specs.Admissions.{IsAcceptedWith}
use Rattle.acc_commands.specs.Command.{Command}
use Rattle.acc_commands.specs.Command.TheVariants as command
use Rattle.acc_commands.specs.Disks.{Seen}
use Rattle.acc_commands.specs.Files.{AreFiles}
use Rattle.acc_commands.specs.Means.{MeansOverDisk}
use Rattle.acc_commands.specs.MigrateFiles.{MigratesSeen, MigratesCertified, MigratesFiles}
use Rattle.acc_commands.specs.Text.{said_in}
use Rattle.acc_commands.specs.Words.{command_of, files_of}
use Rattle.acc_commands.proofs.JournalEndings.{refusal_ends, refusal_tells_none}
use Rattle.acc_cli.specs.declared.status.Status.{Status}
use Rattle.acc_cli.specs.declared.status.Status.TheVariants.{File, Sink, Ran}
use Rattle.acc_cli.specs.Replies.{Reply}
use Rattle.acc_cli.specs.Status.{code_of}
use Rattle.acc_cli.specs.Meant.{MeansForm, Meant}
use Rattle.acc_cli.specs.Answered.{Answered, Ends}
use Rattle.acc_cli.specs.Migrations.{IsMigration, TellsMigration}
use Rattle.acc_cli.proofs.RecoveryLemmas.{TellsNone, none_of, unrecovered_none}
use Rattle.acc_cli.proofs.StatusLemmas.{zero_is_done, seven_is_sink}

module _ (held : List ℕ → Told) (words : List (List ℕ)) (disk disk' : Seen) (old new : Option (List ℕ)) where
  -- of a telling: it tells none, or a journal is made
  abbrev OfTelling : ℕ → Telling → Type 0
  OfTelling code t = TellsNone t
      ⊎ ((t.ending ≡ Done)
      × ((code ≡ 0 → Appends old new t.text) → IsMigration held words disk.told disk'.told old new code t.history t.settled))

  of_files : (code : ℕ) (design certificate source : List ℕ) (t : Telling)
      → AreFiles held (files_of command.Migrate words) (design ∷ certificate ∷ source ∷ [])
      → MigratesFiles design certificate source disk disk' t → OfTelling code t
  of_files code design certificate source t given (inl h) =
      inl (none_of DesignRefused t (λ e. cc) (refusal_ends design (said_in t) h.2) (refusal_tells_none design (said_in t) h.2) h.0)
  of_files code design certificate source t given (inr h) = certified h.says
    where
      over : IsAcceptedWith h.d certificate → MigratesSeen h.d source disk disk' t → OfTelling code t
      over accepted (inl m) = inr (
        m.says.0,
        λ says. record {
          design = design;
          certificate = certificate;
          source = source;
          given = given;
          d = h.d;
          is_text = h.is_text;
          accepted = accepted;
          text = t.text;
          migrates = record {
            last = m.last;
            recovered = m.recovered;
            fresh = m.fresh;
            holds = m.holds;
            says = (refl, m.says.1, m.says.2, m.says.3);
          };
          says = says;
        },
      )
      over accepted (inr (inl m)) = inl (unrecovered_none m.error t m.says)
      over accepted (inr (inr (inl m))) =
          inl (none_of JournalRefused t (λ e. cc) m.finds.says.0 m.finds.says.2 m.finds.says.3)
      over accepted (inr (inr (inr m))) = inl (none_of DiskFailed t (λ e. cc) m.says.0 m.says.2 m.says.3)

      certified : MigratesCertified h.d certificate source disk disk' t → OfTelling code t
      certified (inl r) = inl (none_of DesignRefused t (λ e. cc) r.2.ending r.2.history r.0)
      certified (inr r) = over r.accepted r.ends

  of_command : (code : ℕ) (files : List (List ℕ)) (t : Telling) → AreFiles held (files_of command.Migrate words) files
      → MeansOverDisk command.Migrate files disk disk' t → OfTelling code t
  unfolding MeansOverDisk
  of_command code [] t given h = absurd h
  of_command code (design ∷ []) t given h = absurd h
  of_command code (design ∷ certificate ∷ []) t given h = absurd h
  of_command code (design ∷ certificate ∷ source ∷ []) t given h = of_files code design certificate source t given h
  of_command code (design ∷ certificate ∷ source ∷ more ∷ rest) t given h = absurd h

  -- ---- the program's answer

  module _ (fault : Type 0) (status : Status) (history : List Event) (settled : ℕ) where
    abbrev Tells : Type 0
    Tells = TellsMigration held words disk.told disk'.told old new (code_of status) history settled

    -- where the command wasn't done, the program tells no history
    untold : (meant : Reply) → meant.status ≢ Ran Done → meant.status ≢ Sink → meant.history ≡ [] → meant.settled ≡ 0
        → Ends meant old new fault status history settled → Tells
    untold meant done sink none zero ends = by ends.given_is
      where
        by : (status ≡ meant.status) ⊎ ((meant.status ≡ Ran Done) × (status ≡ Sink) × fault) → Tells
        by (inl same) = inl (
          λ e. done (sym same ∙ zero_is_done status e),
          λ e. sink (sym same ∙ seven_is_sink status e),
          ends.history_is ∙ none,
          ends.settled_is ∙ zero,
        )
        by (inr sunk) = absurd (done sunk.0)

    of_telling : (meant : Reply) (ending : Ending) → meant.status ≡ Ran ending → Ends meant old new fault status history settled
        → OfTelling (code_of status) (record { ending = ending; text = meant.text; history = meant.history; settled = meant.settled }) → Tells
    of_telling meant ending is ends (inl none) =
        untold meant (λ e. none.0 (let s : Ran ending ≡ Ran Done = sym is ∙ e in cc))
        (λ e. let s : Ran ending ≡ Sink = sym is ∙ e in absurd cc) none.1 none.2 ends
    of_telling meant ending is ends (inr tells) =
        inr (subst (λ h. IsMigration held words disk.told disk'.told old new (code_of status) h settled) (sym ends.history_is)
        (subst (λ n. IsMigration held words disk.told disk'.told old new (code_of status) meant.history n) (sym ends.settled_is)
        (tells.1 (λ zero. ends.done (zero_is_done status zero)))))

    of_form : (counts counts' : Counts) (meant : Reply) → MeansForm held counts counts' disk disk' words (Some command.Migrate) meant
        → Ends meant old new fault status history settled → Tells
    of_form counts counts' meant (inl refused) ends =
        untold meant (λ e. let s : File ≡ Ran Done = sym refused.0 ∙ e in absurd cc) (λ e. let s : File ≡ Sink = sym refused.0 ∙ e in absurd cc)
        refused.1.0 refused.1.1 ends
    of_form counts counts' meant (inr (files, given, counted, (ending, is, means))) ends =
        of_telling meant ending is ends
        (of_command (code_of status) files
        (record { ending = ending; text = meant.text; history = meant.history; settled = meant.settled }) given means)

    pub tells_migration : (over : Bool) (counts counts' : Counts) → command_of words ≡ Some command.Migrate
        → (code_of status ≢ 0 → ((history ≡ []) × (settled ≡ 0))
        ⊎ IsMigration held words disk.told disk'.told old new (code_of status) history settled)
        → Answered over (Meant held counts counts' disk disk' words) old new fault status history settled → Tells
    tells_migration over counts counts' form lacking (inl none) = by (lacking (λ zero. absurd (omega (arith, nine, zero))))
      where
        nine : code_of status ≡ 9
        nine = ap code_of none.0

        by : ((history ≡ []) × (settled ≡ 0)) ⊎ IsMigration held words disk.told disk'.told old new (code_of status) history settled
            → Tells
        by (inl untold) = inl (λ e. absurd (omega (arith, nine, e)), λ e. absurd (omega (arith, nine, e)), untold.0, untold.1)
        by (inr told) = inr told
    tells_migration over counts counts' form lacking (inr (meant, means, ends)) =
        of_form counts counts' meant
        (subst (λ (o : Option Command). MeansForm held counts counts' disk disk' words o meant) form means) ends
