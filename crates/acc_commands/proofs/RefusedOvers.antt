-- Which journal is refused, and which run leaves a place unbegun.
use Rattle.std.proofs.Common.{◌≡◌, ℕ, Bool, true, false, List, [], ◌∷◌, inl, inr, sym, ◌∙◌, refl, ⊎_elim}
use Rattle.std.specs.Prelude.{◌⊎◌}
use Rattle.acc_io.specs.Causes.{Rose}
use Rattle.acc_base.specs.declared.designs.Design.{Design}
use Rattle.acc_base.specs.declared.machines.Call.{Call}
use Rattle.acc_base.specs.Machine.{World}
use Rattle.acc_base.specs.Plays.{Play}
use Rattle.acc_journalled.specs.declared.answers.Ending.TheVariants.{Done, DesignRefused, ScriptRefused, JournalRefused}
use Rattle.acc_journalled.specs.declared.answers.Ending.TheVariants.{DiskFailed, Unbegun}
use Rattle.acc_journalled.specs.declared.answers.Wanted.TheVariants.{Counts, Rows, Replies}
use Rattle.acc_journalled.specs.Making.{FindsOne}
use Rattle.acc_journalled.specs.Recovering.{RefusesSo, text_of}
use Rattle.acc_journalled.specs.Tellings.{Telling}
use Rattle.acc_journalled.proofs.Endings.{was_of_bytes}
use Rattle.acc_commands_journals.specs.Admissions.{IsAcceptedWith}
use Rattle.acc_commands_journals.specs.Command.{Command}
use Rattle.acc_commands_journals.specs.Command.TheVariants as command
use Rattle.acc_commands_journals.specs.Text.{said_in}
use Rattle.acc_commands_journals.specs.Disks.{Seen}
use Rattle.acc_commands_journals.specs.BookingFiles.{say_seats, BooksFiles}
use Rattle.acc_commands_journals.specs.InitFiles.{InitsJournal, InitsFile}
use Rattle.acc_commands_journals.specs.MigrateFiles.{MigratesSeen, MigratesCertified, MigratesFiles}
use Rattle.acc_commands_journals.specs.Engines.{ending_at}
use Rattle.acc_commands_files.specs.Schedules.{TellsScheduleFrom}
use Rattle.acc_commands_journals.specs.Running.{RunsFrom, IsOpening, WorkersLeave}
use Rattle.acc_commands_journals.specs.RunFiles.{RunsOfOrder, WorksSeen, RunsOfScript, RunsCertified, RunsTexts}
use Rattle.acc_commands_journals.specs.RecoverFiles.{Saying, RecoversSeen, RecoversCertified, RecoversFiles}
use Rattle.acc_commands.specs.Means.{MeansOverDisk}
use Rattle.acc_commands.specs.Overs.{IsRecovering, IsMaking, RefusesSource, LeavesOver, LeavesBy}
use Rattle.acc_commands.proofs.VerifyOvers.{verify_refused, verify_unbegun}
use Rattle.acc_commands_journals.proofs.JournalEndings.{other_end, refusal_ends, making_ends, recovering_ends, migrating_ends}
use Rattle.acc_commands_journals.proofs.JournalEndings.{unrecovered_ends, untold_refused, over_unbegun, refused_or_recovered}

-- ---- which journal is refused

-- It makes a journal, and one is there; or it recovers one, and nothing is recovered for some cause; or it is `migrate`, and nothing is
-- recovered from its source, and the disk tells what it told.
abbrev pub RefusesOver : Command → List (List ℕ) → Seen → Seen → Telling → Type 0
RefusesOver c files old new t = (IsMaking c × FindsOne old.told new.told t)
    ⊎ (IsRecovering c × (d : Design) × RefusesSo d old.told new.told (Rose old.faults new.faults) t)
    ⊎ (RefusesSource c files × (new.told ≡ old.told))

init_refused : (design : List ℕ) (old new : Seen) (t : Telling) → InitsFile design old new t → t.ending ≡ JournalRefused
    → FindsOne old.told new.told t
init_refused design old new t (inl h) e =
    absurd (other_end DesignRefused JournalRefused t (λ e. cc) (refusal_ends design (said_in t) h.2) e)
init_refused design old new t (inr h) e = by h.ends
  where
    by : InitsJournal h.d old new t → FindsOne old.told new.told t
    by (inl k) = absurd (other_end Done JournalRefused t (λ e. cc) k.says.0 e)
    by (inr (inl k)) = k
    by (inr (inr k)) = absurd (other_end DiskFailed JournalRefused t (λ e. cc) k.says.0 e)

module _ (say : Saying) (old new : Seen) (t : Telling) (so : t.ending ≡ JournalRefused) where
  seen_refused : (d : Design) → RecoversSeen say d old new t → RefusesSo d old.told new.told (Rose old.faults new.faults) t
  seen_refused d (inl h) = absurd (other_end Done JournalRefused t (λ e. cc) h.says.0 so)
  seen_refused d (inr h) = untold_refused d old.told new.told (Rose old.faults new.faults) t so h

  certified_refused : (d : Design) (certificate : List ℕ) → RecoversCertified say d certificate old new t
      → RefusesSo d old.told new.told (Rose old.faults new.faults) t
  certified_refused d certificate (inl h) = absurd (other_end DesignRefused JournalRefused t (λ e. cc) h.2.ending so)
  certified_refused d certificate (inr h) = seen_refused d h.ends

  recover_refused : (design certificate : List ℕ) → RecoversFiles say design certificate old new t
      → (d : Design) × RefusesSo d old.told new.told (Rose old.faults new.faults) t
  recover_refused design certificate (inl h) =
      absurd (other_end DesignRefused JournalRefused t (λ e. cc) (refusal_ends design (said_in t) h.2) so)
  recover_refused design certificate (inr h) = (h.d, certified_refused h.d certificate h.says)

-- ---- of `migrate`

module _ (design certificate source : List ℕ) (old new : Seen) (t : Telling) (so : t.ending ≡ JournalRefused) where
  abbrev RefusesMigrating : Type 0
  RefusesMigrating = FindsOne old.told new.told t
      ⊎ (RefusesSource command.Migrate (design ∷ certificate ∷ source ∷ []) × (new.told ≡ old.told))

  migrate_refused : MigratesFiles design certificate source old new t → RefusesMigrating
  migrate_refused (inl h) = absurd (other_end DesignRefused JournalRefused t (λ e. cc) (refusal_ends design (said_in t) h.2) so)
  migrate_refused (inr h) = certified h.says
    where
      over : IsAcceptedWith h.d certificate → MigratesSeen h.d source old new t → RefusesMigrating
      over accepted (inl k) = absurd (other_end Done JournalRefused t (λ e. cc) k.says.0 so)
      over accepted (inr (inl k)) = inr (
        record {
          is_migrate = refl;
          design = design;
          certificate = certificate;
          source = source;
          are_files = refl;
          d = h.d;
          is_text = h.is_text;
          accepted = accepted;
          error = k.error;
          of_bytes = was_of_bytes k.error t k.says (λ failed. let e : JournalRefused ≡ DiskFailed = sym so ∙ failed in absurd cc);
          cause = k.cause;
        },
        k.same,
      )
      over accepted (inr (inr (inl k))) = inl k.finds
      over accepted (inr (inr (inr k))) = absurd (other_end DiskFailed JournalRefused t (λ e. cc) k.says.0 so)

      certified : MigratesCertified h.d certificate source old new t → RefusesMigrating
      certified (inl k) = absurd (other_end DesignRefused JournalRefused t (λ e. cc) k.2.ending so)
      certified (inr k) = over k.accepted k.ends

-- ---- of `booking verify`

book_refused : (design certificate : List ℕ) (old new : Seen) (t : Telling) → t.ending ≡ JournalRefused → BooksFiles design certificate old new t
    → (d : Design) × RefusesSo d old.told new.told (Rose old.faults new.faults) t
book_refused design certificate old new t so h =
    ⊎_elim (λ other. absurd (other_end DesignRefused JournalRefused t (λ e. cc) other.2.0 so))
    (λ found. recover_refused say_seats old new t so design certificate found) (refused_or_recovered old new t design certificate h)

-- ---- of a run

module _ (old new : Seen) (t : Telling) (so : t.ending ≡ JournalRefused) where
  running_refused : (d : Design) (calls : List Call) (order : List ℕ) (Opens : World → Play → Type 0)
      → RunsFrom d calls order Opens old.told new.told (Rose old.faults new.faults) t
      → RefusesSo d old.told new.told (Rose old.faults new.faults) t
  running_refused d calls order Opens (inl h) = absurd (by h.all_begun (sym h.ending ∙ so))
    where
      by : (all_begun : Bool) → ending_at all_begun ≡ JournalRefused → ⊥
      by true e = cc
      by false e = cc
  running_refused d calls order Opens (inr (inl h)) = absurd (other_end DiskFailed JournalRefused t (λ e. cc) h.ending so)
  running_refused d calls order Opens (inr (inr h)) = h

  order_refused : (order : List ℕ) (d : Design) (calls : List Call) → RunsOfOrder order d calls old new t
      → RefusesSo d old.told new.told (Rose old.faults new.faults) t
  order_refused order d calls (inl h) = absurd (other_end ScriptRefused JournalRefused t (λ e. cc) h.2.says.0 so)
  order_refused order d calls (inr h) = running_refused d calls h.numbers (IsOpening calls) h.ends

  workers_refused : (d : Design) (calls : List Call) → WorksSeen d calls old new t
      → RefusesSo d old.told new.told (Rose old.faults new.faults) t
  workers_refused d calls h = running_refused d calls [] (WorkersLeave d calls) h

  module _ (OfCalls : Design → List Call → Seen → Seen → Telling → Type 0) (refused : (d : Design) (calls : List Call)
      → OfCalls d calls old new t → RefusesSo d old.told new.told (Rose old.faults new.faults) t) where
    script_refused : (d : Design) (script : List ℕ) → RunsOfScript OfCalls d script old new t
        → RefusesSo d old.told new.told (Rose old.faults new.faults) t
    script_refused d script (inl h) = absurd (other_end ScriptRefused JournalRefused t (λ e. cc) h.2.says.0 so)
    script_refused d script (inr h) = refused d h.calls h.says

    run_certified_refused : (d : Design) (certificate script : List ℕ) → RunsCertified OfCalls d certificate script old new t
        → RefusesSo d old.told new.told (Rose old.faults new.faults) t
    run_certified_refused d certificate script (inl h) = absurd (other_end DesignRefused JournalRefused t (λ e. cc) h.2.ending so)
    run_certified_refused d certificate script (inr h) = script_refused d script h.says

    texts_refused : (design certificate script : List ℕ) → RunsTexts OfCalls design certificate script old new t
        → (d : Design) × RefusesSo d old.told new.told (Rose old.faults new.faults) t
    texts_refused design certificate script (inl h) =
        absurd (other_end DesignRefused JournalRefused t (λ e. cc) (refusal_ends design (said_in t) h.2) so)
    texts_refused design certificate script (inr h) = (h.d, run_certified_refused h.d certificate script h.says)

pub refused_over : (c : Command) (files : List (List ℕ)) (old new : Seen) (t : Telling) → t.ending ≡ JournalRefused
    → MeansOverDisk c files old new t → RefusesOver c files old new t
unfolding MeansOverDisk
refused_over command.Init [] old new t e h = absurd h
refused_over command.Init (design ∷ []) old new t e h = inl (inl refl, init_refused design old new t h e)
refused_over command.Init (design ∷ more ∷ rest) old new t e h = absurd h
refused_over command.Recover [] old new t e h = absurd h
refused_over command.Recover (design ∷ []) old new t e h = absurd h
refused_over command.Recover (design ∷ certificate ∷ []) old new t e h =
    let r = recover_refused (text_of Counts) old new t e design certificate h in inr (inl (inr (inl refl), r.0, r.1))
refused_over command.Recover (design ∷ certificate ∷ more ∷ rest) old new t e h = absurd h
refused_over command.Dump [] old new t e h = absurd h
refused_over command.Dump (design ∷ []) old new t e h = absurd h
refused_over command.Dump (design ∷ certificate ∷ []) old new t e h =
    let r = recover_refused (text_of Rows) old new t e design certificate h in inr (inl (inr (inr (inl refl)), r.0, r.1))
refused_over command.Dump (design ∷ certificate ∷ more ∷ rest) old new t e h = absurd h
refused_over command.Replies [] old new t e h = absurd h
refused_over command.Replies (design ∷ []) old new t e h = absurd h
refused_over command.Replies (design ∷ certificate ∷ []) old new t e h =
    let r = recover_refused (text_of Replies) old new t e design certificate h in inr (inl (inr (inr (inr (inl refl))), r.0, r.1))
refused_over command.Replies (design ∷ certificate ∷ more ∷ rest) old new t e h = absurd h
refused_over command.Verify [] old new t e h = absurd h
refused_over command.Verify (design ∷ []) old new t e h = absurd h
refused_over command.Verify (design ∷ certificate ∷ []) old new t e h =
    let r = verify_refused old new t design certificate e h in inr (inl (inr (inr (inr (inr (inl refl)))), r.0, r.1))
refused_over command.Verify (design ∷ certificate ∷ more ∷ rest) old new t e h = absurd h
refused_over command.BookingVerify [] old new t e h = absurd h
refused_over command.BookingVerify (design ∷ []) old new t e h = absurd h
refused_over command.BookingVerify (design ∷ certificate ∷ []) old new t e h =
    let r = book_refused design certificate old new t e h in inr (inl (inr (inr (inr (inr (inr (inl refl))))), r.0, r.1))
refused_over command.BookingVerify (design ∷ certificate ∷ more ∷ rest) old new t e h = absurd h
refused_over command.Migrate [] old new t e h = absurd h
refused_over command.Migrate (design ∷ []) old new t e h = absurd h
refused_over command.Migrate (design ∷ certificate ∷ []) old new t e h = absurd h
refused_over command.Migrate (design ∷ certificate ∷ source ∷ []) old new t e h =
    ⊎_elim (λ finds. inl (inr refl, finds)) (λ refused. inr (inr refused)) (migrate_refused design certificate source old new t e h)
refused_over command.Migrate (design ∷ certificate ∷ source ∷ more ∷ rest) old new t e h = absurd h
refused_over (command.Advise side) files old new t e h = absurd h
refused_over command.Audit files old new t e h = absurd h
refused_over (command.Follow size) files old new t e h = absurd h
refused_over command.TpccDesign files old new t e h = absurd h
refused_over command.BookingDesign files old new t e h = absurd h
refused_over (command.TpccLoad scale) files old new t e h = absurd h
refused_over (command.TpccMix mix) files old new t e h = absurd h
refused_over (command.Bench mix) files old new t e h = absurd h
refused_over command.Play files old new t e h = absurd h
refused_over command.Rehearse files old new t e h = absurd h
refused_over command.Sched [] old new t e h = absurd h
refused_over command.Sched (design ∷ []) old new t e h = absurd h
refused_over command.Sched (design ∷ certificate ∷ []) old new t e h = absurd h
refused_over command.Sched (design ∷ certificate ∷ script ∷ []) old new t e h = absurd h
refused_over command.Sched (design ∷ certificate ∷ script ∷ order ∷ []) old new t e h =
    let r = texts_refused old new t e (RunsOfOrder order) (order_refused old new t e order) design certificate script h in
    inr (inl (inl refl, r.0, r.1))
refused_over command.Sched (design ∷ certificate ∷ script ∷ order ∷ more ∷ rest) old new t e h = absurd h
refused_over (command.Run workers) [] old new t e h = absurd h
refused_over (command.Run workers) (design ∷ []) old new t e h = absurd h
refused_over (command.Run workers) (design ∷ certificate ∷ []) old new t e h = absurd h
refused_over (command.Run workers) (design ∷ certificate ∷ script ∷ []) old new t e h =
    let r = texts_refused old new t e WorksSeen (workers_refused old new t e) design certificate script h in
    inr (inl (inr (inr (inr (inr (inr (inr (workers, refl)))))), r.0, r.1))
refused_over (command.Run workers) (design ∷ certificate ∷ script ∷ more ∷ rest) old new t e h = absurd h
refused_over command.Print files old new t e h = absurd h
refused_over command.Draw files old new t e h = absurd h
refused_over command.Check files old new t e h = absurd h
refused_over command.Prove files old new t e h = absurd h
refused_over command.Help files old new t e h = absurd h
refused_over command.Version files old new t e h = absurd h

-- ---- which run leaves a place unbegun

module _ (old new : Seen) (t : Telling) (so : t.ending ≡ Unbegun) where
  module _ (Opens : Design → List Call → World → Play → Type 0) where
    running_unbegun : (d : Design) (calls : List Call) (order : List ℕ)
        → RunsFrom d calls order (Opens d calls) old.told new.told (Rose old.faults new.faults) t → LeavesOver Opens t
    running_unbegun d calls order (inl h) = by h.all_begun (sym h.ending ∙ so) h.tells
      where
        by : (all_begun : Bool) → ending_at all_begun ≡ Unbegun
            → TellsScheduleFrom d calls h.opened order t.text t.history all_begun → LeavesOver Opens t
        by true e tells = absurd cc
        by false e tells = record {
          d = d;
          calls = calls;
          order = order;
          first = h.first;
          opened = h.opened;
          opens = h.opens;
          tells = tells;
        }
    running_unbegun d calls order (inr (inl h)) = absurd (other_end DiskFailed Unbegun t (λ e. cc) h.ending so)
    running_unbegun d calls order (inr (inr h)) =
        absurd (over_unbegun (Rose old.faults new.faults) t
        (unrecovered_ends h.error d old.told (Rose old.faults new.faults) t h.cause h.says) so)

  order_unbegun : (order : List ℕ) (d : Design) (calls : List Call) → RunsOfOrder order d calls old new t
      → LeavesOver (λ d. IsOpening) t
  order_unbegun order d calls (inl h) = absurd (other_end ScriptRefused Unbegun t (λ e. cc) h.2.says.0 so)
  order_unbegun order d calls (inr h) = running_unbegun (λ d. IsOpening) d calls h.numbers h.ends

  workers_unbegun : (d : Design) (calls : List Call) → WorksSeen d calls old new t → LeavesOver WorkersLeave t
  workers_unbegun d calls h = running_unbegun WorkersLeave d calls [] h

  module _ (OfCalls : Design → List Call → Seen → Seen → Telling → Type 0) (Leaves : Type 0)
      (unbegun : (d : Design) (calls : List Call) → OfCalls d calls old new t → Leaves) where
    script_unbegun : (d : Design) (script : List ℕ) → RunsOfScript OfCalls d script old new t → Leaves
    script_unbegun d script (inl h) = absurd (other_end ScriptRefused Unbegun t (λ e. cc) h.2.says.0 so)
    script_unbegun d script (inr h) = unbegun d h.calls h.says

    run_certified_unbegun : (d : Design) (certificate script : List ℕ) → RunsCertified OfCalls d certificate script old new t → Leaves
    run_certified_unbegun d certificate script (inl h) = absurd (other_end DesignRefused Unbegun t (λ e. cc) h.2.ending so)
    run_certified_unbegun d certificate script (inr h) = script_unbegun d script h.says

    texts_unbegun : (design certificate script : List ℕ) → RunsTexts OfCalls design certificate script old new t → Leaves
    texts_unbegun design certificate script (inl h) =
        absurd (other_end DesignRefused Unbegun t (λ e. cc) (refusal_ends design (said_in t) h.2) so)
    texts_unbegun design certificate script (inr h) = run_certified_unbegun h.d certificate script h.says

  init_unbegun : (design : List ℕ) → InitsFile design old new t → ⊥
  init_unbegun design (inl h) = other_end DesignRefused Unbegun t (λ e. cc) (refusal_ends design (said_in t) h.2) so
  init_unbegun design (inr h) =
      over_unbegun (Rose old.faults new.faults) t (making_ends h.d old.told new.told (Rose old.faults new.faults) t h.ends) so

  recover_certified_unbegun : (say : Saying) (d : Design) (certificate : List ℕ) → RecoversCertified say d certificate old new t → ⊥
  recover_certified_unbegun say d certificate (inl h) = other_end DesignRefused Unbegun t (λ e. cc) h.2.ending so
  recover_certified_unbegun say d certificate (inr h) =
      over_unbegun (Rose old.faults new.faults) t
      (recovering_ends (say d) d old.told new.told (Rose old.faults new.faults) t h.ends) so

  recover_unbegun : (say : Saying) (design certificate : List ℕ) → RecoversFiles say design certificate old new t → ⊥
  recover_unbegun say design certificate (inl h) =
      other_end DesignRefused Unbegun t (λ e. cc) (refusal_ends design (said_in t) h.2) so
  recover_unbegun say design certificate (inr h) = recover_certified_unbegun say h.d certificate h.says

  migrate_unbegun : (design certificate source : List ℕ) → MigratesFiles design certificate source old new t → ⊥
  migrate_unbegun design certificate source (inl h) =
      other_end DesignRefused Unbegun t (λ e. cc) (refusal_ends design (said_in t) h.2) so
  migrate_unbegun design certificate source (inr h) = by h.says
    where
      by : MigratesCertified h.d certificate source old new t → ⊥
      by (inl k) = other_end DesignRefused Unbegun t (λ e. cc) k.2.ending so
      by (inr k) =
          over_unbegun (Rose old.faults new.faults) t
          (migrating_ends h.d source old.told new.told (Rose old.faults new.faults) t k.ends) so

  book_unbegun : (design certificate : List ℕ) → BooksFiles design certificate old new t → ⊥
  book_unbegun design certificate h =
      ⊎_elim (λ other. other_end DesignRefused Unbegun t (λ e. cc) other.2.0 so)
      (λ found. recover_unbegun say_seats design certificate found) (refused_or_recovered old new t design certificate h)

pub unbegun_over : (c : Command) (files : List (List ℕ)) (old new : Seen) (t : Telling) → t.ending ≡ Unbegun
    → MeansOverDisk c files old new t → LeavesBy c t
unfolding MeansOverDisk
unbegun_over command.Init [] old new t e h = absurd h
unbegun_over command.Init (design ∷ []) old new t e h = absurd (init_unbegun old new t e design h)
unbegun_over command.Init (design ∷ more ∷ rest) old new t e h = absurd h
unbegun_over command.Sched [] old new t e h = absurd h
unbegun_over command.Sched (design ∷ []) old new t e h = absurd h
unbegun_over command.Sched (design ∷ certificate ∷ []) old new t e h = absurd h
unbegun_over command.Sched (design ∷ certificate ∷ script ∷ []) old new t e h = absurd h
unbegun_over command.Sched (design ∷ certificate ∷ script ∷ order ∷ []) old new t e h =
    inl (
      refl,
      texts_unbegun old new t e (RunsOfOrder order) (LeavesOver (λ d. IsOpening) t) (order_unbegun old new t e order) design certificate
          script h,
    )
unbegun_over command.Sched (design ∷ certificate ∷ script ∷ order ∷ more ∷ rest) old new t e h = absurd h
unbegun_over (command.Run workers) [] old new t e h = absurd h
unbegun_over (command.Run workers) (design ∷ []) old new t e h = absurd h
unbegun_over (command.Run workers) (design ∷ certificate ∷ []) old new t e h = absurd h
unbegun_over (command.Run workers) (design ∷ certificate ∷ script ∷ []) old new t e h =
    inr (
      workers,
      refl,
      texts_unbegun old new t e WorksSeen (LeavesOver WorkersLeave t) (workers_unbegun old new t e) design certificate script h,
    )
unbegun_over (command.Run workers) (design ∷ certificate ∷ script ∷ more ∷ rest) old new t e h = absurd h
unbegun_over command.Recover [] old new t e h = absurd h
unbegun_over command.Recover (design ∷ []) old new t e h = absurd h
unbegun_over command.Recover (design ∷ certificate ∷ []) old new t e h = absurd (recover_unbegun old new t e (text_of Counts) design certificate h)
unbegun_over command.Recover (design ∷ certificate ∷ more ∷ rest) old new t e h = absurd h
unbegun_over command.Dump [] old new t e h = absurd h
unbegun_over command.Dump (design ∷ []) old new t e h = absurd h
unbegun_over command.Dump (design ∷ certificate ∷ []) old new t e h = absurd (recover_unbegun old new t e (text_of Rows) design certificate h)
unbegun_over command.Dump (design ∷ certificate ∷ more ∷ rest) old new t e h = absurd h
unbegun_over command.Replies [] old new t e h = absurd h
unbegun_over command.Replies (design ∷ []) old new t e h = absurd h
unbegun_over command.Replies (design ∷ certificate ∷ []) old new t e h = absurd (recover_unbegun old new t e (text_of Replies) design certificate h)
unbegun_over command.Replies (design ∷ certificate ∷ more ∷ rest) old new t e h = absurd h
unbegun_over command.Rehearse files old new t e h = absurd h
unbegun_over command.Verify [] old new t e h = absurd h
unbegun_over command.Verify (design ∷ []) old new t e h = absurd h
unbegun_over command.Verify (design ∷ certificate ∷ []) old new t e h = absurd (verify_unbegun old new t design certificate e h)
unbegun_over command.Verify (design ∷ certificate ∷ more ∷ rest) old new t e h = absurd h
unbegun_over command.BookingVerify [] old new t e h = absurd h
unbegun_over command.BookingVerify (design ∷ []) old new t e h = absurd h
unbegun_over command.BookingVerify (design ∷ certificate ∷ []) old new t e h = absurd (book_unbegun old new t e design certificate h)
unbegun_over command.BookingVerify (design ∷ certificate ∷ more ∷ rest) old new t e h = absurd h
unbegun_over command.Migrate [] old new t e h = absurd h
unbegun_over command.Migrate (design ∷ []) old new t e h = absurd h
unbegun_over command.Migrate (design ∷ certificate ∷ []) old new t e h = absurd h
unbegun_over command.Migrate (design ∷ certificate ∷ source ∷ []) old new t e h = absurd (migrate_unbegun old new t e design certificate source h)
unbegun_over command.Migrate (design ∷ certificate ∷ source ∷ more ∷ rest) old new t e h = absurd h
unbegun_over (command.Advise side) files old new t e h = absurd h
unbegun_over command.Audit files old new t e h = absurd h
unbegun_over (command.Follow size) files old new t e h = absurd h
unbegun_over command.TpccDesign files old new t e h = absurd h
unbegun_over command.BookingDesign files old new t e h = absurd h
unbegun_over (command.TpccLoad scale) files old new t e h = absurd h
unbegun_over (command.TpccMix mix) files old new t e h = absurd h
unbegun_over (command.Bench mix) files old new t e h = absurd h
unbegun_over command.Play files old new t e h = absurd h
unbegun_over command.Print files old new t e h = absurd h
unbegun_over command.Draw files old new t e h = absurd h
unbegun_over command.Check files old new t e h = absurd h
unbegun_over command.Prove files old new t e h = absurd h
unbegun_over command.Help files old new t e h = absurd h
unbegun_over command.Version files old new t e h = absurd h
