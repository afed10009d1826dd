-- A command says one thing of its files.
use Rattle.std.proofs.Common.{◌≡◌, ◌<◌, ◌^◌, length, arith, ℕ, Bool, true, false, List, [], ◌∷◌, Option, None, Some}
use Rattle.std.proofs.Common.{◌⊎◌, ⊎_elim, refl, sym, ap, subst, ◌∙◌, inl, inr}
use Rattle.std.specs.Prelude.{codes}
use Rattle.acc_base.specs.declared.designs.Design.{Design}
use Rattle.acc_base.specs.declared.designs.Side.{Side}
use Rattle.acc_base.specs.declared.machines.Call.{Call}
use Rattle.acc_base.specs.Lines.{line}
use Rattle.acc_print.specs.Designs.{printed}
use Rattle.acc_commands_files.specs.Pictures.{drawn}
use Rattle.acc_commands_journals.proofs.OneReported.{reports_once}
use Rattle.acc_commands_journals.specs.Reports.{Reports}
use Rattle.acc_commands_journals.specs.Command.{Command}
use Rattle.acc_commands_journals.specs.Command.TheVariants as command
use Rattle.acc_io.specs.Causes.{Rose}
use Rattle.acc_journalled.specs.declared.answers.Ending.TheVariants.{Done, DesignRefused}
use Rattle.acc_journalled.specs.declared.answers.Wanted.TheVariants.{Counts, Rows, Replies}
use Rattle.acc_journalled.specs.Making.{MakesJournal}
use Rattle.acc_journalled.specs.Migrating.{MigratesJournal}
use Rattle.acc_journalled.specs.Recovering.{RecoversJournal, text_of}
use Rattle.acc_journalled.specs.Tellings.{Telling}
use Rattle.acc_journalled.proofs.Once.{making_once, recovering_once}
use Rattle.acc_journalled.proofs.OneMigration.{migrating_once}
use Rattle.acc_commands_journals.specs.Text.{Said, said_in}
use Rattle.acc_commands_journals.specs.Disks.{Seen, TellsAll}
use Rattle.acc_commands_journals.specs.Notes.{help_text, version_text}
use Rattle.acc_commands_journals.specs.Scripts.{SaysOfScript}
use Rattle.acc_commands_files.specs.PlayFiles.{SaysPlay, PlaysFiles}
use Rattle.acc_commands_files.specs.ShippedText.{shipped_design}
use Rattle.acc_commands_files.specs.BookingText.{booking_design}
use Rattle.acc_commands_files.specs.Workloads.{load_said, mix_said}
use Rattle.acc_commands_files.specs.ScheduleFiles.{SaysOfCertificate, SchedulesFiles}
use Rattle.acc_commands_files.specs.PrintFiles.{PrintsFile, DrawsFile}
use Rattle.acc_commands_files.specs.CheckFiles.{ChecksFiles, ending_by}
use Rattle.acc_commands_journals.specs.BookingFiles.{say_seats, BooksSchema, BooksCertified, BooksFiles}
use Rattle.acc_commands_journals.specs.InitFiles.{InitsJournal, InitsFile}
use Rattle.acc_commands_journals.specs.MigrateFiles.{MigratesSeen, MigratesCertified, MigratesFiles}
use Rattle.acc_commands_journals.specs.RecoverFiles.{Saying, RecoversSeen, RecoversCertified, RecoversFiles}
use Rattle.acc_commands.specs.Alike.{IsWhole, AreByWorkers, AreAlike}
use Rattle.acc_commands_journals.specs.Words.{is_journalled}
use Rattle.acc_commands.specs.Means.{AdvisesGiven, MeansOfFiles, MeansOverDisk, MeansBy, Means}
use Rattle.acc_commands_journals.proofs.OneDesign.{said_same, one_design, one_refusal, formed_or_refused}
use Rattle.acc_commands_files.proofs.OneAdvice.{one_advice}
use Rattle.acc_commands_files.proofs.OneAudit.{one_audit}
use Rattle.acc_commands.proofs.OneProving.{SaidAlike, one_prove}
use Rattle.acc_commands.proofs.OneFollowing.{one_follow_of}
use Rattle.acc_commands.proofs.OneVerifying.{telling_same, one_verify}
use Rattle.acc_commands.proofs.OneBenching.{one_bench_of}
use Rattle.acc_commands.proofs.OneRun.{one_of_script, one_play, one_certificate_refusal, accepted_or_refused, one_certified}
use Rattle.acc_commands.proofs.OneRun.{one_order_refusal, one_numbers, one_script_refusal, one_calls}
use Rattle.acc_commands_journals.specs.RunFiles.{RunsSeen, RunsOfOrder, WorksSeen, RunsOfScript, RunsCertified, RunsTexts}
use Rattle.acc_commands_journals.specs.Engines.{ending_at}
use Rattle.acc_commands_journals.specs.Running.{RunsJournal, WorksJournal, WorkersLeave}
use Rattle.acc_commands_journals.proofs.OneRun.{running_once, running_or}

-- ---- plays

one_play_of : (design script order : List ℕ) (a b : Said) → PlaysFiles design script order a → PlaysFiles design script order b → a ≡ b
one_play_of design script order a b (inl h) (inl k) = one_refusal design a b h k
one_play_of design script order a b (inl h) (inr k) = absurd (formed_or_refused design k.d a k.is_text k.formed h)
one_play_of design script order a b (inr h) (inl k) = absurd (formed_or_refused design h.d b h.is_text h.formed k)
one_play_of design script order a b (inr h) (inr k) =
    one_of_script (SaysPlay k.d) (one_play k.d) k.d script order a b
    (subst (λ (d : Design). SaysOfScript (SaysPlay d) d script order a) (one_design design h.d k.d h.is_text k.is_text) h.says) k.says

one_print : (design : List ℕ) (a b : Said) → PrintsFile design a → PrintsFile design b → a ≡ b
one_print design a b (inl h) (inl k) = one_refusal design a b h k
one_print design a b (inl h) (inr k) = absurd (formed_or_refused design k.d a k.is_text k.formed h)
one_print design a b (inr h) (inl k) = absurd (formed_or_refused design h.d b h.is_text h.formed k)
one_print design a b (inr h) (inr k) =
    said_same Done (printed h.d) (printed k.d) a b (ap printed (one_design design h.d k.d h.is_text k.is_text)) h.says k.says

one_draw : (design : List ℕ) (a b : Said) → DrawsFile design a → DrawsFile design b → a ≡ b
one_draw design a b (inl h) (inl k) = one_refusal design a b h k
one_draw design a b (inl h) (inr k) = absurd (formed_or_refused design k.d a k.is_text k.formed h)
one_draw design a b (inr h) (inl k) = absurd (formed_or_refused design h.d b h.is_text h.formed k)
one_draw design a b (inr h) (inr k) =
    said_same Done (drawn h.d) (drawn k.d) a b (ap drawn (one_design design h.d k.d h.is_text k.is_text)) h.says k.says

-- ---- certificates

one_check : (design certificate : List ℕ) (a b : Said) → ChecksFiles design certificate a → ChecksFiles design certificate b → a ≡ b
one_check design certificate a b (inl h) (inl k) = one_refusal design a b h k
one_check design certificate a b (inl h) (inr k) = absurd (formed_or_refused design k.d a k.is_text k.formed h)
one_check design certificate a b (inr h) (inl k) = absurd (formed_or_refused design h.d b h.is_text h.formed k)
one_check design certificate a b (inr h) (inr k) =
    let same = reports_once k.d certificate h.accepted k.accepted a.text b.text
    (subst (λ (d : Design). Reports d certificate h.accepted a.text) (one_design design h.d k.d h.is_text k.is_text) h.reports) k.reports in
    let ending : a.ending ≡ b.ending = h.ending ∙ ap ending_by same.0 ∙ sym k.ending in
    λ i. record { ending = ending i; text = same.1 i; history = (h.history ∙ sym k.history) i }

one_scheduled :
    (design certificate script order : List ℕ) (a b : Said) → SchedulesFiles design certificate script order a
    → SchedulesFiles design certificate script order b → a ≡ b
one_scheduled design certificate script order a b (inl h) (inl k) = one_refusal design a b h k
one_scheduled design certificate script order a b (inl h) (inr k) = absurd (formed_or_refused design k.d a k.is_text k.formed h)
one_scheduled design certificate script order a b (inr h) (inl k) = absurd (formed_or_refused design h.d b h.is_text h.formed k)
one_scheduled design certificate script order a b (inr h) (inr k) =
    one_certified k.d certificate script order a b
    (subst (λ (d : Design). SaysOfCertificate d certificate script order a) (one_design design h.d k.d h.is_text k.is_text) h.says) k.says

-- ---- commands without a journal

-- two words name points, and one text is the design
one_advice_given :
    (side : Side) (points files : List (List ℕ)) (a b : Said) → AdvisesGiven side points files a → AdvisesGiven side points files b → a ≡ b
one_advice_given side (held ∷ step ∷ []) (design ∷ []) a b h k = one_advice design held step side a b h k
one_advice_given side [] files a b h k = absurd h
one_advice_given side (held ∷ []) files a b h k = absurd h
one_advice_given side (held ∷ step ∷ []) [] a b h k = absurd h
one_advice_given side (held ∷ step ∷ []) (design ∷ more ∷ rest) a b h k = absurd h
one_advice_given side (held ∷ step ∷ more ∷ rest) files a b h k = absurd h

one_of_files :
    (c : Command) (points files : List (List ℕ)) (a b : Said) → MeansOfFiles c points files a → MeansOfFiles c points files b → SaidAlike c a b
unfolding MeansOfFiles
one_of_files command.Play points [] a b h k = absurd h
one_of_files command.Play points (design ∷ []) a b h k = absurd h
one_of_files command.Play points (design ∷ script ∷ []) a b h k = absurd h
one_of_files command.Play points (design ∷ script ∷ order ∷ []) a b h k = inl (one_play_of design script order a b h k)
one_of_files command.Play points (design ∷ script ∷ order ∷ more ∷ rest) a b h k = absurd h
one_of_files command.Rehearse points [] a b h k = absurd h
one_of_files command.Rehearse points (design ∷ []) a b h k = absurd h
one_of_files command.Rehearse points (design ∷ certificate ∷ []) a b h k = absurd h
one_of_files command.Rehearse points (design ∷ certificate ∷ script ∷ []) a b h k = absurd h
one_of_files command.Rehearse points (design ∷ certificate ∷ script ∷ order ∷ []) a b h k =
    inl (one_scheduled design certificate script order a b h k)
one_of_files command.Rehearse points (design ∷ certificate ∷ script ∷ order ∷ more ∷ rest) a b h k = absurd h
one_of_files command.Print points [] a b h k = absurd h
one_of_files command.Print points (design ∷ []) a b h k = inl (one_print design a b h k)
one_of_files command.Print points (design ∷ more ∷ rest) a b h k = absurd h
one_of_files command.Draw points [] a b h k = absurd h
one_of_files command.Draw points (design ∷ []) a b h k = inl (one_draw design a b h k)
one_of_files command.Draw points (design ∷ more ∷ rest) a b h k = absurd h
one_of_files command.Check points [] a b h k = absurd h
one_of_files command.Check points (design ∷ []) a b h k = absurd h
one_of_files command.Check points (design ∷ certificate ∷ []) a b h k = inl (one_check design certificate a b h k)
one_of_files command.Check points (design ∷ certificate ∷ more ∷ rest) a b h k = absurd h
one_of_files command.Prove points [] a b h k = absurd h
one_of_files command.Prove points (design ∷ []) a b h k = one_prove design a b h k
one_of_files command.Prove points (design ∷ more ∷ rest) a b h k = absurd h
one_of_files (command.Advise side) points files a b h k = inl (one_advice_given side points files a b h k)
one_of_files command.Audit points [] a b h k = absurd h
one_of_files command.Audit points (design ∷ []) a b h k = absurd h
one_of_files command.Audit points (design ∷ journal ∷ []) a b h k = inl (one_audit design journal a b h k)
one_of_files command.Audit points (design ∷ journal ∷ more ∷ rest) a b h k = absurd h
one_of_files (command.Follow size) points [] a b h k = absurd h
one_of_files (command.Follow size) points (design ∷ []) a b h k = absurd h
one_of_files (command.Follow size) points (design ∷ certificate ∷ []) a b h k = absurd h
one_of_files (command.Follow size) points (design ∷ certificate ∷ copy ∷ []) a b h k =
    inl (one_follow_of design certificate copy a b h k)
one_of_files (command.Follow size) points (design ∷ certificate ∷ copy ∷ more ∷ rest) a b h k = absurd h
one_of_files command.Init points files a b h k = absurd h
one_of_files command.Sched points files a b h k = absurd h
one_of_files (command.Run workers) points files a b h k = absurd h
one_of_files command.Recover points files a b h k = absurd h
one_of_files command.Dump points files a b h k = absurd h
one_of_files command.Replies points files a b h k = absurd h
one_of_files command.Verify points files a b h k = absurd h
one_of_files command.Migrate points files a b h k = absurd h
one_of_files command.TpccDesign points [] a b h k = inl (said_same Done (printed shipped_design) (printed shipped_design) a b refl h.says k.says)
one_of_files command.BookingDesign points [] a b h k = inl (said_same Done (printed booking_design) (printed booking_design) a b refl h.says k.says)
one_of_files command.TpccDesign points (more ∷ rest) a b h k = absurd h
one_of_files command.BookingVerify points files a b h k = absurd h
one_of_files command.BookingDesign points (more ∷ rest) a b h k = absurd h
one_of_files (command.TpccLoad scale) points [] a b h k = inl (said_same Done (load_said scale) (load_said scale) a b refl h k)
one_of_files (command.TpccMix mix) points [] a b h k = inl (said_same Done (mix_said mix) (mix_said mix) a b refl h k)
one_of_files (command.TpccLoad scale) points (more ∷ rest) a b h k = absurd h
one_of_files (command.TpccMix mix) points (more ∷ rest) a b h k = absurd h
one_of_files (command.Bench mix) points [] a b h k = absurd h
one_of_files (command.Bench mix) points (design ∷ []) a b h k = absurd h
one_of_files (command.Bench mix) points (design ∷ certificate ∷ []) a b h k = inl (one_bench_of mix design certificate a b h k)
one_of_files (command.Bench mix) points (design ∷ certificate ∷ more ∷ rest) a b h k = absurd h
one_of_files command.Help points [] a b h k = inl (said_same Done help_text help_text a b refl h k)
one_of_files command.Help points (more ∷ rest) a b h k = absurd h
one_of_files command.Version points [] a b h k = inl (said_same Done version_text version_text a b refl h k)
one_of_files command.Version points (more ∷ rest) a b h k = absurd h

-- ---- journals

-- of a disk that tells its bytes, one thing is said
module _ (old one other : Seen) (a b : Telling) (all : TellsAll old one other) where
  one_journal : (told : Option (List ℕ)) (d : Design) → old.told ≡ told → InitsJournal d old one a → InitsJournal d old other b → a ≡ b
  one_journal None d is h k = absurd (all.0 is)
  one_journal (Some file) d is h k =
      making_once d file one.told other.told (Rose old.faults one.faults) (Rose old.faults other.faults) a b all.1 all.2
      (subst (λ t. MakesJournal d t one.told (Rose old.faults one.faults) a) is h)
      (subst (λ t. MakesJournal d t other.told (Rose old.faults other.faults) b) is k)

  one_recovery_of : (told : Option (List ℕ)) (say : Saying) (d : Design) → old.told ≡ told → RecoversSeen say d old one a
      → RecoversSeen say d old other b → a ≡ b
  one_recovery_of None say d is h k = absurd (all.0 is)
  one_recovery_of (Some file) say d is h k =
      recovering_once d file (say d) one.told other.told a b (Rose old.faults one.faults) (Rose old.faults other.faults)
      all.1 all.2 (subst (λ t. RecoversJournal (say d) d t one.told (Rose old.faults one.faults) a) is h)
      (subst (λ t. RecoversJournal (say d) d t other.told (Rose old.faults other.faults) b) is k)

  one_init : (design : List ℕ) → InitsFile design old one a → InitsFile design old other b → a ≡ b
  one_init design (inl h) (inl k) = telling_same a b (one_refusal design (said_in a) (said_in b) h.2 k.2) (h.0 ∙ sym k.0)
  one_init design (inl h) (inr k) = absurd (formed_or_refused design k.d (said_in a) k.is_text k.formed h.2)
  one_init design (inr h) (inl k) = absurd (formed_or_refused design h.d (said_in b) h.is_text h.formed k.2)
  one_init design (inr h) (inr k) =
      one_journal old.told k.d refl
      (subst (λ (d : Design). InitsJournal d old one a) (one_design design h.d k.d h.is_text k.is_text) h.ends) k.ends

  one_certified_recovery : (say : Saying) (d : Design) (certificate : List ℕ) → RecoversCertified say d certificate old one a
      → RecoversCertified say d certificate old other b → a ≡ b
  one_certified_recovery say d certificate (inl h) (inl k) =
      telling_same a b (one_certificate_refusal d certificate (said_in a) (said_in b) h.2 k.2) (h.0 ∙ sym k.0)
  one_certified_recovery say d certificate (inl h) (inr k) =
      absurd (accepted_or_refused d certificate (said_in a) k.accepted h.2)
  one_certified_recovery say d certificate (inr h) (inl k) =
      absurd (accepted_or_refused d certificate (said_in b) h.accepted k.2)
  one_certified_recovery say d certificate (inr h) (inr k) = one_recovery_of old.told say d refl h.ends k.ends

  one_recover : (say : Saying) (design certificate : List ℕ) → RecoversFiles say design certificate old one a
      → RecoversFiles say design certificate old other b → a ≡ b
  one_recover say design certificate (inl h) (inl k) =
      telling_same a b (one_refusal design (said_in a) (said_in b) h.2 k.2) (h.0 ∙ sym k.0)
  one_recover say design certificate (inl h) (inr k) = absurd (formed_or_refused design k.d (said_in a) k.is_text k.formed h.2)
  one_recover say design certificate (inr h) (inl k) = absurd (formed_or_refused design h.d (said_in b) h.is_text h.formed k.2)
  one_recover say design certificate (inr h) (inr k) =
      one_certified_recovery say k.d certificate
      (subst (λ (d : Design). RecoversCertified say d certificate old one a) (one_design design h.d k.d h.is_text k.is_text) h.says)
      k.says

  -- ---- migrations

  one_migration : (told : Option (List ℕ)) (d : Design) (source : List ℕ) → old.told ≡ told → MigratesSeen d source old one a
      → MigratesSeen d source old other b → a ≡ b
  one_migration None d source is h k = absurd (all.0 is)
  one_migration (Some file) d source is h k =
      migrating_once d source file one.told other.told a b (Rose old.faults one.faults) (Rose old.faults other.faults) all.1 all.2
      (subst (λ t. MigratesJournal d source t one.told (Rose old.faults one.faults) a) is h)
      (subst (λ t. MigratesJournal d source t other.told (Rose old.faults other.faults) b) is k)

  one_certified_migration : (d : Design) (certificate source : List ℕ) → MigratesCertified d certificate source old one a
      → MigratesCertified d certificate source old other b → a ≡ b
  one_certified_migration d certificate source (inl h) (inl k) =
      telling_same a b (one_certificate_refusal d certificate (said_in a) (said_in b) h.2 k.2) (h.0 ∙ sym k.0)
  one_certified_migration d certificate source (inl h) (inr k) =
      absurd (accepted_or_refused d certificate (said_in a) k.accepted h.2)
  one_certified_migration d certificate source (inr h) (inl k) =
      absurd (accepted_or_refused d certificate (said_in b) h.accepted k.2)
  one_certified_migration d certificate source (inr h) (inr k) = one_migration old.told d source refl h.ends k.ends

  one_migrate : (design certificate source : List ℕ) → MigratesFiles design certificate source old one a
      → MigratesFiles design certificate source old other b → a ≡ b
  one_migrate design certificate source (inl h) (inl k) =
      telling_same a b (one_refusal design (said_in a) (said_in b) h.2 k.2) (h.0 ∙ sym k.0)
  one_migrate design certificate source (inl h) (inr k) =
      absurd (formed_or_refused design k.d (said_in a) k.is_text k.formed h.2)
  one_migrate design certificate source (inr h) (inl k) =
      absurd (formed_or_refused design h.d (said_in b) h.is_text h.formed k.2)
  one_migrate design certificate source (inr h) (inr k) =
      one_certified_migration k.d certificate source
      (subst (λ (d : Design). MigratesCertified d certificate source old one a) (one_design design h.d k.d h.is_text k.is_text) h.says)
      k.says

  -- ---- bookings

  one_by_schema : (d : Design) → BooksSchema d old one a → BooksSchema d old other b → a ≡ b
  one_by_schema d (inl h) (inl k) =
      telling_same a b
      (said_same DesignRefused (line (codes "refused schema 1")) (line (codes "refused schema 1")) (said_in a) (said_in b) refl h.2.says k.2.says)
      (h.0 ∙ sym k.0)
  one_by_schema d (inl h) (inr k) = absurd (h.2.other k.shipped)
  one_by_schema d (inr h) (inl k) = absurd (k.2.other h.shipped)
  one_by_schema d (inr h) (inr k) = one_recovery_of old.told say_seats d refl h.ends k.ends

  one_by_certificate : (d : Design) (certificate : List ℕ) → BooksCertified d certificate old one a → BooksCertified d certificate old other b
      → a ≡ b
  one_by_certificate d certificate (inl h) (inl k) =
      telling_same a b (one_certificate_refusal d certificate (said_in a) (said_in b) h.2 k.2) (h.0 ∙ sym k.0)
  one_by_certificate d certificate (inl h) (inr k) = absurd (accepted_or_refused d certificate (said_in a) k.accepted h.2)
  one_by_certificate d certificate (inr h) (inl k) = absurd (accepted_or_refused d certificate (said_in b) h.accepted k.2)
  one_by_certificate d certificate (inr h) (inr k) = one_by_schema d h.says k.says

  one_book : (design certificate : List ℕ) → BooksFiles design certificate old one a → BooksFiles design certificate old other b → a ≡ b
  one_book design certificate (inl h) (inl k) = telling_same a b (one_refusal design (said_in a) (said_in b) h.2 k.2) (h.0 ∙ sym k.0)
  one_book design certificate (inl h) (inr k) = absurd (formed_or_refused design k.d (said_in a) k.is_text k.formed h.2)
  one_book design certificate (inr h) (inl k) = absurd (formed_or_refused design h.d (said_in b) h.is_text h.formed k.2)
  one_book design certificate (inr h) (inr k) =
      one_by_certificate k.d certificate
      (subst (λ (d : Design). BooksCertified d certificate old one a) (one_design design h.d k.d h.is_text k.is_text) h.says) k.says

-- ---- runs over a journal

module _ (old one other : Seen) (a b : Telling) (all : TellsAll old one other) where
  one_running : (told : Option (List ℕ)) (d : Design) (calls : List Call) (order : List ℕ) → old.told ≡ told
      → RunsSeen d calls order old one a → RunsSeen d calls order old other b → a ≡ b
  one_running None d calls order is h k = absurd (all.0 is)
  one_running (Some file) d calls order is h k =
      running_once d calls order file one.told other.told a b (Rose old.faults one.faults) (Rose old.faults other.faults) all.1 all.2
      (subst (λ t. RunsJournal d calls order t one.told (Rose old.faults one.faults) a) is h)
      (subst (λ t. RunsJournal d calls order t other.told (Rose old.faults other.faults) b) is k)

  one_run_order : (order : List ℕ) (d : Design) (calls : List Call) → length calls < 2 ^ 64 → RunsOfOrder order d calls old one a
      → RunsOfOrder order d calls old other b → a ≡ b
  one_run_order order d calls few (inl h) (inl k) =
      telling_same a b (one_order_refusal calls order (said_in a) (said_in b) few h.2 k.2) (h.0 ∙ sym k.0)
  one_run_order order d calls few (inl h) (inr k) = absurd (h.2.none k.numbers k.is_order)
  one_run_order order d calls few (inr h) (inl k) = absurd (k.2.none h.numbers h.is_order)
  one_run_order order d calls few (inr h) (inr k) =
      one_running old.told d calls k.numbers refl
      (subst (λ (ns : List ℕ). RunsSeen d calls ns old one a)
      (one_numbers calls order h.numbers k.numbers few h.is_order k.is_order) h.ends)
      k.ends

  -- a whole run ends as done, or with a place unbegun
  whole_so : (all_begun : Bool) (t : Telling) → t.ending ≡ ending_at all_begun → IsWhole t
  whole_so true t e = inl e
  whole_so false t e = inr e

  one_working : (told : Option (List ℕ)) (d : Design) (calls : List Call) → old.told ≡ told
      → WorksSeen d calls old one a → WorksSeen d calls old other b → (a ≡ b) ⊎ (IsWhole a × IsWhole b)
  one_working None d calls is h k = absurd (all.0 is)
  one_working (Some file) d calls is h k =
      running_or d calls [] file one.told other.told a b (IsWhole a × IsWhole b) (WorkersLeave d calls)
      (λ x y. (whole_so x.all_begun a x.ending, whole_so y.all_begun b y.ending)) (Rose old.faults one.faults)
      (Rose old.faults other.faults) all.1 all.2
      (subst (λ t. WorksJournal d calls t one.told (Rose old.faults one.faults) a) is h)
      (subst (λ t. WorksJournal d calls t other.told (Rose old.faults other.faults) b) is k)

-- where one thing is said of the calls, or what they say is free
module _ (OfCalls : Design → List Call → Seen → Seen → Telling → Type 0) (Free : Type 0) (old one other : Seen) (a b : Telling)
    (once : (d : Design) (calls : List Call) → length calls < 2 ^ 64 → OfCalls d calls old one a → OfCalls d calls old other b
    → (a ≡ b) ⊎ Free) where
  one_run_script : (d : Design) (script : List ℕ) → RunsOfScript OfCalls d script old one a → RunsOfScript OfCalls d script old other b
      → (a ≡ b) ⊎ Free
  one_run_script d script (inl h) (inl k) =
      inl (telling_same a b (one_script_refusal d script (said_in a) (said_in b) h.2 k.2) (h.0 ∙ sym k.0))
  one_run_script d script (inl h) (inr k) = absurd (h.2.none k.calls k.is_script)
  one_run_script d script (inr h) (inl k) = absurd (k.2.none h.calls h.is_script)
  one_run_script d script (inr h) (inr k) =
      once d k.calls (omega (arith, k.is_script.few))
      (subst (λ (cs : List Call). OfCalls d cs old one a) (one_calls d script h.calls k.calls h.is_script k.is_script) h.says) k.says

  one_run_certified : (d : Design) (certificate script : List ℕ) → RunsCertified OfCalls d certificate script old one a
      → RunsCertified OfCalls d certificate script old other b → (a ≡ b) ⊎ Free
  one_run_certified d certificate script (inl h) (inl k) =
      inl (telling_same a b (one_certificate_refusal d certificate (said_in a) (said_in b) h.2 k.2) (h.0 ∙ sym k.0))
  one_run_certified d certificate script (inl h) (inr k) =
      absurd (accepted_or_refused d certificate (said_in a) k.accepted h.2)
  one_run_certified d certificate script (inr h) (inl k) =
      absurd (accepted_or_refused d certificate (said_in b) h.accepted k.2)
  one_run_certified d certificate script (inr h) (inr k) = one_run_script d script h.says k.says

  one_run_of : (design certificate script : List ℕ) → RunsTexts OfCalls design certificate script old one a
      → RunsTexts OfCalls design certificate script old other b → (a ≡ b) ⊎ Free
  one_run_of design certificate script (inl h) (inl k) =
      inl (telling_same a b (one_refusal design (said_in a) (said_in b) h.2 k.2) (h.0 ∙ sym k.0))
  one_run_of design certificate script (inl h) (inr k) =
      absurd (formed_or_refused design k.d (said_in a) k.is_text k.formed h.2)
  one_run_of design certificate script (inr h) (inl k) =
      absurd (formed_or_refused design h.d (said_in b) h.is_text h.formed k.2)
  one_run_of design certificate script (inr h) (inr k) =
      one_run_certified k.d certificate script
      (subst (λ (d : Design). RunsCertified OfCalls d certificate script old one a) (one_design design h.d k.d h.is_text k.is_text) h.says)
      k.says

one_over_disk :
    (c : Command) (files : List (List ℕ)) (old one other : Seen) (a b : Telling) → TellsAll old one other
    → MeansOverDisk c files old one a → MeansOverDisk c files old other b → (a ≡ b) ⊎ AreByWorkers c a b
unfolding MeansOverDisk
one_over_disk command.Init [] old one other a b all h k = absurd h
one_over_disk command.Init (design ∷ []) old one other a b all h k = inl (one_init old one other a b all design h k)
one_over_disk command.Init (design ∷ more ∷ rest) old one other a b all h k = absurd h
one_over_disk command.Recover [] old one other a b all h k = absurd h
one_over_disk command.Recover (design ∷ []) old one other a b all h k = absurd h
one_over_disk command.Recover (design ∷ certificate ∷ []) old one other a b all h k =
    inl (one_recover old one other a b all (text_of Counts) design certificate h k)
one_over_disk command.Recover (design ∷ certificate ∷ more ∷ rest) old one other a b all h k = absurd h
one_over_disk command.Dump [] old one other a b all h k = absurd h
one_over_disk command.Dump (design ∷ []) old one other a b all h k = absurd h
one_over_disk command.Dump (design ∷ certificate ∷ []) old one other a b all h k =
    inl (one_recover old one other a b all (text_of Rows) design certificate h k)
one_over_disk command.Dump (design ∷ certificate ∷ more ∷ rest) old one other a b all h k = absurd h
one_over_disk command.Replies [] old one other a b all h k = absurd h
one_over_disk command.Replies (design ∷ []) old one other a b all h k = absurd h
one_over_disk command.Replies (design ∷ certificate ∷ []) old one other a b all h k =
    inl (one_recover old one other a b all (text_of Replies) design certificate h k)
one_over_disk command.Replies (design ∷ certificate ∷ more ∷ rest) old one other a b all h k = absurd h
one_over_disk command.Verify [] old one other a b all h k = absurd h
one_over_disk command.Verify (design ∷ []) old one other a b all h k = absurd h
one_over_disk command.Verify (design ∷ certificate ∷ []) old one other a b all h k =
    inl (one_verify old one other a b all design certificate h k)
one_over_disk command.Verify (design ∷ certificate ∷ more ∷ rest) old one other a b all h k = absurd h
one_over_disk command.Migrate [] old one other a b all h k = absurd h
one_over_disk command.Migrate (design ∷ []) old one other a b all h k = absurd h
one_over_disk command.Migrate (design ∷ certificate ∷ []) old one other a b all h k = absurd h
one_over_disk command.Migrate (design ∷ certificate ∷ source ∷ []) old one other a b all h k =
    inl (one_migrate old one other a b all design certificate source h k)
one_over_disk command.Migrate (design ∷ certificate ∷ source ∷ more ∷ rest) old one other a b all h k = absurd h
one_over_disk command.BookingVerify [] old one other a b all h k = absurd h
one_over_disk command.BookingVerify (design ∷ []) old one other a b all h k = absurd h
one_over_disk command.BookingVerify (design ∷ certificate ∷ []) old one other a b all h k =
    inl (one_book old one other a b all design certificate h k)
one_over_disk command.BookingVerify (design ∷ certificate ∷ more ∷ rest) old one other a b all h k = absurd h
one_over_disk (command.Advise side) files old one other a b all h k = absurd h
one_over_disk command.Audit files old one other a b all h k = absurd h
one_over_disk (command.Follow size) files old one other a b all h k = absurd h
one_over_disk command.TpccDesign files old one other a b all h k = absurd h
one_over_disk command.BookingDesign files old one other a b all h k = absurd h
one_over_disk (command.TpccLoad scale) files old one other a b all h k = absurd h
one_over_disk (command.TpccMix mix) files old one other a b all h k = absurd h
one_over_disk (command.Bench mix) files old one other a b all h k = absurd h
one_over_disk command.Play files old one other a b all h k = absurd h
one_over_disk command.Rehearse files old one other a b all h k = absurd h
one_over_disk command.Sched [] old one other a b all h k = absurd h
one_over_disk command.Sched (design ∷ []) old one other a b all h k = absurd h
one_over_disk command.Sched (design ∷ certificate ∷ []) old one other a b all h k = absurd h
one_over_disk command.Sched (design ∷ certificate ∷ script ∷ []) old one other a b all h k = absurd h
one_over_disk command.Sched (design ∷ certificate ∷ script ∷ order ∷ []) old one other a b all h k =
    inl (⊎_elim (λ same. same) (λ none. absurd none)
    (one_run_of (RunsOfOrder order) ⊥ old one other a b
    (λ d calls few x y. inl (one_run_order old one other a b all order d calls few x y)) design certificate script h k))
one_over_disk command.Sched (design ∷ certificate ∷ script ∷ order ∷ more ∷ rest) old one other a b all h k = absurd h
one_over_disk (command.Run workers) [] old one other a b all h k = absurd h
one_over_disk (command.Run workers) (design ∷ []) old one other a b all h k = absurd h
one_over_disk (command.Run workers) (design ∷ certificate ∷ []) old one other a b all h k = absurd h
one_over_disk (command.Run workers) (design ∷ certificate ∷ script ∷ []) old one other a b all h k =
    ⊎_elim (λ same. inl same)
    (λ whole. inr (record { workers = workers; is_run = refl; one_whole = whole.0; other_whole = whole.1 }))
    (one_run_of WorksSeen (IsWhole a × IsWhole b) old one other a b
    (λ d calls few x y. one_working old one other a b all old.told d calls refl x y) design certificate script h k)
one_over_disk (command.Run workers) (design ∷ certificate ∷ script ∷ more ∷ rest) old one other a b all h k = absurd h
one_over_disk command.Print files old one other a b all h k = absurd h
one_over_disk command.Draw files old one other a b all h k = absurd h
one_over_disk command.Check files old one other a b all h k = absurd h
one_over_disk command.Prove files old one other a b all h k = absurd h
one_over_disk command.Help files old one other a b all h k = absurd h
one_over_disk command.Version files old one other a b all h k = absurd h

-- ---- commands

alike_telling : (c : Command) (a b : Telling) → SaidAlike c (said_in a) (said_in b) → a.settled ≡ b.settled → AreAlike c a b
alike_telling c a b (inl same) settled = inl (telling_same a b same settled)
alike_telling c a b (inr (is, one, other, history)) settled =
    inr (inl (record { is_prove = is; one_done = one; other_done = other; history = history; settled = settled }))

one_by :
    (over : Bool) (c : Command) (points files : List (List ℕ)) (old one other : Seen) (a b : Telling)
    → (over ≡ true → TellsAll old one other) → MeansBy over c points files old one a → MeansBy over c points files old other b
    → AreAlike c a b
one_by true c points files old one other a b all h k =
    ⊎_elim (λ same. inl same) (λ free. inr (inr free)) (one_over_disk c files old one other a b (all refl) h k)
one_by false c points files old one other a b all h k =
    alike_telling c a b (one_of_files c points files (said_in a) (said_in b) h.2 k.2) (h.0 ∙ sym k.0)

pub one_meaning :
    (c : Command) (points files : List (List ℕ)) (old one other : Seen) (a b : Telling)
    → (is_journalled c ≡ true → TellsAll old one other) → Means c points files old one a → Means c points files old other b
    → AreAlike c a b
one_meaning c = one_by (is_journalled c) c
