-- How the commands over a journal end.
use Rattle.std.proofs.Common.{◌≡◌, ℕ, Bool, true, false, List, [], Option, Some, inl, inr, sym, ◌∙◌, ⊎_elim}
use Rattle.std.specs.Prelude.{◌≢◌, ◌⊎◌, codes}
use Rattle.acc_io.specs.Causes.{Rose}
use Rattle.acc_base.specs.declared.designs.Design.{Design}
use Rattle.acc_base.specs.declared.machines.Call.{Call}
use Rattle.acc_base.specs.Lines.{line}
use Rattle.acc_base.specs.Machine.{World}
use Rattle.acc_base.specs.Plays.{Play}
use Rattle.acc_commands_inputs.specs.ParseError.{ParseError}
use Rattle.acc_commands_inputs.specs.ParseError.TheVariants as errors
use Rattle.acc_wal.specs.declared.errors.WalError.{WalError}
use Rattle.acc_wal.specs.declared.errors.WalError.TheVariants as wal
use Rattle.acc_journalled.specs.Refusals.{RefusesRecovery}
use Rattle.acc_journalled.specs.RecoverError.{RecoverError}
use Rattle.acc_journalled.specs.RecoverError.TheVariants as recovery
use Rattle.acc_journalled.specs.declared.answers.Ending.{Ending}
use Rattle.acc_journalled.specs.declared.answers.Ending.TheVariants.{Done, DesignRefused, ScriptRefused, JournalRefused}
use Rattle.acc_journalled.specs.declared.answers.Ending.TheVariants.{DiskFailed, Unbegun, Open, ConditionFalse}
use Rattle.acc_journalled.specs.Making.{MakesJournal}
use Rattle.acc_journalled.specs.Migrating.{MigratesJournal}
use Rattle.acc_journalled.specs.Recovering.{SaysNotRead, SaysNotRecovered, RefusesSo, EndsUntold, RecoversJournal}
use Rattle.acc_journalled.specs.Verifying.{VerifiesJournal}
use Rattle.acc_journalled.specs.Tellings.{Telling}
use Rattle.tpcc_tables.specs.declared.tables.TableSet.{TableSet}
use Rattle.acc_commands_inputs.specs.Text.{Said, Says, said_in, IsEarly}
use Rattle.acc_commands_journals.specs.Disks.{Seen, WithoutDisk}
use Rattle.acc_commands_inputs.specs.Refusals.{SaysError, RefusesDesign}
use Rattle.acc_commands_journals.specs.InitFiles.{InitsFile}
use Rattle.acc_commands_journals.specs.MigrateFiles.{MigratesCertified, MigratesFiles}
use Rattle.acc_running.specs.Running.{RunsFrom, RunsJournal, WorksJournal, IsOpening, WorkersLeave}
use Rattle.acc_running.specs.Engines.{ending_at}
use Rattle.acc_commands_journals.specs.RunFiles.{RunsOfOrder, WorksSeen, RunsOfScript, RunsCertified, RunsTexts, RunsFiles, WorksFiles}
use Rattle.acc_commands_journals.specs.BookingFiles.{say_seats, BooksCertified, BooksFiles}
use Rattle.acc_commands_journals.specs.RecoverFiles.{Saying, RecoversCertified, RecoversFiles}
use Rattle.acc_commands_journals.specs.VerifyFiles.{VerifiesSchema, VerifiesCertified, VerifiesFiles}

-- ---- the journal decides

-- it is all done, or the journal is refused, or a call of the disk failed
abbrev pub EndsOver : Type 0 → Telling → Type 0
EndsOver fault t = (t.ending ≡ Done) ⊎ (t.ending ≡ JournalRefused) ⊎ ((t.ending ≡ DiskFailed) × fault)

pub making_ends : (d : Design) (told told' : Option (List ℕ)) (fault : Type 0) (t : Telling) → MakesJournal d told told' fault t
    → EndsOver fault t
making_ends d told told' fault t (inl h) = inl h.says.0
making_ends d told told' fault t (inr (inl h)) = inr (inl h.says.0)
making_ends d told told' fault t (inr (inr h)) = inr (inr (h.says.0, h.failed))

not_read_ends : (error : WalError) (t : Telling) → SaysNotRead error t → t.ending ≡ JournalRefused
not_read_ends wal.NotJournal t says = says.0
not_read_ends (wal.OtherVersion version) t says = says.0
not_read_ends (wal.Damaged place) t says = says.0
not_read_ends wal.Exists t says = absurd says
not_read_ends wal.Disk t says = absurd says
not_read_ends wal.Spent t says = absurd says
not_read_ends wal.Memory t says = absurd says

pub unrecovered_ends : (error : RecoverError) (d : Design) (told : Option (List ℕ)) (fault : Type 0) (t : Telling)
    → RefusesRecovery d error told fault → SaysNotRecovered error t → EndsOver fault t
unrecovered_ends (recovery.Journal error) d told fault t why says = inr (inl (not_read_ends error t says))
unrecovered_ends recovery.OtherDesign d told fault t why says = inr (inl says.0)
unrecovered_ends (recovery.Unlawful at) d told fault t why says = inr (inl says.0)
unrecovered_ends (recovery.Differs place) d told fault t why says = inr (inl says.0)
unrecovered_ends recovery.Disk d told fault t why says = inr (inr (says.0, why))
unrecovered_ends recovery.Memory d told fault t why says = absurd says

pub untold_ends : (d : Design) (told told' : Option (List ℕ)) (fault : Type 0) (t : Telling) → EndsUntold d told told' fault t
    → EndsOver fault t
untold_ends d told told' fault t (inl h) = unrecovered_ends h.error d told fault t h.cause h.says
untold_ends d told told' fault t (inr h) = inr (inr (h.says.0, h.failed))

pub recovering_ends : (text : World → ℕ → List ℕ) (d : Design) (told told' : Option (List ℕ)) (fault : Type 0) (t : Telling)
    → RecoversJournal text d told told' fault t → EndsOver fault t
recovering_ends text d told told' fault t (inl h) = inl h.says.0
recovering_ends text d told told' fault t (inr h) = untold_ends d told told' fault t h

-- where the fault is another one too
over_weaker : (fault other : Type 0) (t : Telling) → (fault → other) → EndsOver fault t → EndsOver other t
over_weaker fault other t so (inl is) = inl is
over_weaker fault other t so (inr (inl is)) = inr (inl is)
over_weaker fault other t so (inr (inr is)) = inr (inr (is.0, so is.1))

pub migrating_ends : (d : Design) (source : List ℕ) (told told' : Option (List ℕ)) (fault : Type 0) (t : Telling)
    → MigratesJournal d source told told' fault t → EndsOver fault t
migrating_ends d source told told' fault t (inl h) = inl h.says.0
migrating_ends d source told told' fault t (inr (inl h)) =
    over_weaker ⊥ fault t (λ none. absurd none) (unrecovered_ends h.error d (Some source) ⊥ t h.cause h.says)
migrating_ends d source told told' fault t (inr (inr (inl h))) = inr (inl h.finds.says.0)
migrating_ends d source told told' fault t (inr (inr (inr h))) = inr (inr (h.says.0, h.failed))

pub other_end : (a b : Ending) (t : Telling) → a ≢ b → t.ending ≡ a → t.ending ≡ b → ⊥
other_end a b t differs is so = differs (sym is ∙ so)

-- where nothing is recovered, not all is done
pub unrecovered_done : (error : RecoverError) (t : Telling) → SaysNotRecovered error t → t.ending ≢ Done
unrecovered_done (recovery.Journal error) t says is = other_end JournalRefused Done t (λ e. cc) (not_read_ends error t says) is
unrecovered_done recovery.OtherDesign t says is = other_end JournalRefused Done t (λ e. cc) says.0 is
unrecovered_done (recovery.Unlawful at) t says is = other_end JournalRefused Done t (λ e. cc) says.0 is
unrecovered_done (recovery.Differs place) t says is = other_end JournalRefused Done t (λ e. cc) says.0 is
unrecovered_done recovery.Disk t says is = other_end DiskFailed Done t (λ e. cc) says.0 is
unrecovered_done recovery.Memory t says is = says

pub untold_done : (d : Design) (told told' : Option (List ℕ)) (fault : Type 0) (t : Telling) → EndsUntold d told told' fault t
    → t.ending ≢ Done
untold_done d told told' fault t (inl h) is = unrecovered_done h.error t h.says is
untold_done d told told' fault t (inr h) is = other_end DiskFailed Done t (λ e. cc) h.says.0 is

-- where the journal is refused, nothing is recovered
pub untold_refused : (d : Design) (told told' : Option (List ℕ)) (fault : Type 0) (t : Telling) → t.ending ≡ JournalRefused
    → EndsUntold d told told' fault t → RefusesSo d told told' fault t
untold_refused d told told' fault t so (inl h) = h
untold_refused d told told' fault t so (inr h) = absurd (other_end DiskFailed JournalRefused t (λ e. cc) h.says.0 so)

-- that isn't an ending before the journal
pub over_late : (fault : Type 0) (t : Telling) → EndsOver fault t → IsEarly t.ending → ⊥
over_late fault t (inl is) (inl e) = other_end Done DesignRefused t (λ e. cc) is e
over_late fault t (inl is) (inr e) = other_end Done ScriptRefused t (λ e. cc) is e
over_late fault t (inr (inl is)) (inl e) = other_end JournalRefused DesignRefused t (λ e. cc) is e
over_late fault t (inr (inl is)) (inr e) = other_end JournalRefused ScriptRefused t (λ e. cc) is e
over_late fault t (inr (inr is)) (inl e) = other_end DiskFailed DesignRefused t (λ e. cc) is.0 e
over_late fault t (inr (inr is)) (inr e) = other_end DiskFailed ScriptRefused t (λ e. cc) is.0 e

pub making_late : (d : Design) (told told' : Option (List ℕ)) (fault : Type 0) (t : Telling) → MakesJournal d told told' fault t
    → IsEarly t.ending → ⊥
making_late d told told' fault t h = over_late fault t (making_ends d told told' fault t h)

pub recovering_late : (text : World → ℕ → List ℕ) (d : Design) (told told' : Option (List ℕ)) (fault : Type 0) (t : Telling)
    → RecoversJournal text d told told' fault t → IsEarly t.ending → ⊥
recovering_late text d told told' fault t h = over_late fault t (recovering_ends text d told told' fault t h)

pub migrating_late : (d : Design) (source : List ℕ) (told told' : Option (List ℕ)) (fault : Type 0) (t : Telling)
    → MigratesJournal d source told told' fault t → IsEarly t.ending → ⊥
migrating_late d source told told' fault t h = over_late fault t (migrating_ends d source told told' fault t h)

-- telling of conditions ends so too, or with one that is false
abbrev pub EndsJudged : Type 0 → Telling → Type 0
EndsJudged fault t = EndsOver fault t ⊎ (t.ending ≡ ConditionFalse)

verifying_ends : (s : TableSet) (d : Design) (told told' : Option (List ℕ)) (fault : Type 0) (t : Telling)
    → VerifiesJournal s d told told' fault t → EndsJudged fault t
verifying_ends s d told told' fault t (inl h) = ⊎_elim (λ e. inl (inl e.0)) (λ e. inr e.0) h.ending
verifying_ends s d told told' fault t (inr h) = inl (untold_ends d told told' fault t h)

judged_late : (fault : Type 0) (t : Telling) → EndsJudged fault t → IsEarly t.ending → ⊥
judged_late fault t (inl over) early = over_late fault t over early
judged_late fault t (inr is) (inl e) = other_end ConditionFalse DesignRefused t (λ e. cc) is e
judged_late fault t (inr is) (inr e) = other_end ConditionFalse ScriptRefused t (λ e. cc) is e

pub verifying_late : (s : TableSet) (d : Design) (told told' : Option (List ℕ)) (fault : Type 0) (t : Telling)
    → VerifiesJournal s d told told' fault t → IsEarly t.ending → ⊥
verifying_late s d told told' fault t h = judged_late fault t (verifying_ends s d told told' fault t h)

-- ---- a refusal of the design stands before it

error_ends : (e : ParseError) (said : Said) → SaysError e said → said.ending ≡ DesignRefused
error_ends (errors.Syntax at) said says = says.0
error_ends (errors.Name at) said says = says.0
error_ends (errors.Limit at which) said says = says.0
error_ends errors.Memory said says = absurd says

error_tells_none : (e : ParseError) (said : Said) → SaysError e said → said.history ≡ []
error_tells_none (errors.Syntax at) said says = says.2
error_tells_none (errors.Name at) said says = says.2
error_tells_none (errors.Limit at which) said says = says.2
error_tells_none errors.Memory said says = absurd says

pub refusal_tells_none : (design : List ℕ) (said : Said) → RefusesDesign design said → said.history ≡ []
refusal_tells_none design said (inl h) = error_tells_none h.error said h.says
refusal_tells_none design said (inr h) = h.says.2

pub refusal_ends : (design : List ℕ) (said : Said) → RefusesDesign design said → said.ending ≡ DesignRefused
refusal_ends design said (inl h) = error_ends h.error said h.says
refusal_ends design said (inr h) = h.says.0

-- how running ends: besides, a place couldn't begin
abbrev pub EndsRun : Type 0 → Telling → Type 0
EndsRun fault t = EndsOver fault t ⊎ (t.ending ≡ Unbegun)

running_ends : (d : Design) (calls : List Call) (order : List ℕ) (Opens : World → Play → Type 0) (told told' : Option (List ℕ))
    (fault : Type 0) (t : Telling) → RunsFrom d calls order Opens told told' fault t → EndsRun fault t
running_ends d calls order Opens told told' fault t (inl h) = by h.all_begun h.ending
  where
    by : (all_begun : Bool) → t.ending ≡ ending_at all_begun → EndsRun fault t
    by true e = inl (inl e)
    by false e = inr e
running_ends d calls order Opens told told' fault t (inr (inl h)) = inl (inr (inr (h.ending, h.failed)))
running_ends d calls order Opens told told' fault t (inr (inr h)) = inl (unrecovered_ends h.error d told fault t h.cause h.says)

pub run_late : (fault : Type 0) (t : Telling) → EndsRun fault t → IsEarly t.ending → ⊥
run_late fault t (inl h) early = over_late fault t h early
run_late fault t (inr is) (inl e) = other_end Unbegun DesignRefused t (λ e. cc) is e
run_late fault t (inr is) (inr e) = other_end Unbegun ScriptRefused t (λ e. cc) is e

pub seen_late : (d : Design) (calls : List Call) (order : List ℕ) (told told' : Option (List ℕ)) (fault : Type 0) (t : Telling)
    → RunsJournal d calls order told told' fault t → IsEarly t.ending → ⊥
seen_late d calls order told told' fault t h = run_late fault t (running_ends d calls order (IsOpening calls) told told' fault t h)

pub works_late : (d : Design) (calls : List Call) (told told' : Option (List ℕ)) (fault : Type 0) (t : Telling)
    → WorksJournal d calls told told' fault t → IsEarly t.ending → ⊥
works_late d calls told told' fault t h = run_late fault t (running_ends d calls [] (WorkersLeave d calls) told told' fault t h)

-- a refusal before the journal, or how it ends by that
abbrev pub EndsOverDisk : Type 0 → Telling → Type 0
EndsOverDisk fault t = IsEarly t.ending ⊎ EndsRun fault t

pub init_ends : (design : List ℕ) (old new : Seen) (t : Telling) → InitsFile design old new t → EndsOverDisk (Rose old.faults new.faults) t
init_ends design old new t (inl h) = inl (inl (refusal_ends design (said_in t) h.2))
init_ends design old new t (inr h) = inr (inl (making_ends h.d old.told new.told (Rose old.faults new.faults) t h.ends))

module _ (source : List ℕ) (old new : Seen) (t : Telling) where
  made_certified_ends : (d : Design) (certificate : List ℕ) → MigratesCertified d certificate source old new t
      → EndsOverDisk (Rose old.faults new.faults) t
  made_certified_ends d certificate (inl h) = inl (inl h.2.ending)
  made_certified_ends d certificate (inr h) =
      inr (inl (migrating_ends d source old.told new.told (Rose old.faults new.faults) t h.ends))

  pub migrate_ends : (design certificate : List ℕ) → MigratesFiles design certificate source old new t
      → EndsOverDisk (Rose old.faults new.faults) t
  migrate_ends design certificate (inl h) = inl (inl (refusal_ends design (said_in t) h.2))
  migrate_ends design certificate (inr h) = made_certified_ends h.d certificate h.says

module _ (say : Saying) (old new : Seen) (t : Telling) where
  certified_ends : (d : Design) (certificate : List ℕ) → RecoversCertified say d certificate old new t
      → EndsOverDisk (Rose old.faults new.faults) t
  certified_ends d certificate (inl h) = inl (inl h.2.ending)
  certified_ends d certificate (inr h) =
      inr (inl (recovering_ends (say d) d old.told new.told (Rose old.faults new.faults) t h.ends))

  pub recover_ends : (design certificate : List ℕ) → RecoversFiles say design certificate old new t
      → EndsOverDisk (Rose old.faults new.faults) t
  recover_ends design certificate (inl h) = inl (inl (refusal_ends design (said_in t) h.2))
  recover_ends design certificate (inr h) = certified_ends h.d certificate h.says

-- a design is refused since it isn't the shipped one
abbrev pub RefusesOther : Seen → Seen → Telling → Type 0
RefusesOther = WithoutDisk (Says DesignRefused (line (codes "refused schema 1")))

-- what `booking verify` says is such a refusal, or it is said of a recovery
module _ (old new : Seen) (t : Telling) where
  pub refused_or_recovered : (design certificate : List ℕ) → BooksFiles design certificate old new t
      → RefusesOther old new t ⊎ RecoversFiles say_seats design certificate old new t
  refused_or_recovered design certificate (inl h) = inr (inl h)
  refused_or_recovered design certificate (inr h) = by h.says
    where
      recovered : RecoversCertified say_seats h.d certificate old new t → RecoversFiles say_seats design certificate old new t
      recovered says = inr (record { d = h.d; is_text = h.is_text; formed = h.formed; says = says })

      by : BooksCertified h.d certificate old new t → RefusesOther old new t ⊎ RecoversFiles say_seats design certificate old new t
      by (inl k) = inr (recovered (inl k))
      by (inr k) =
          ⊎_elim (λ other. inl (other.0, other.1, other.2.says))
          (λ found. inr (recovered (inr (record { accepted = k.accepted; ends = found.ends })))) k.says

  pub book_ends : (design certificate : List ℕ) → BooksFiles design certificate old new t → EndsOverDisk (Rose old.faults new.faults) t
  book_ends design certificate h =
      ⊎_elim (λ other. inl (inl other.2.0)) (λ found. recover_ends say_seats old new t design certificate found)
      (refused_or_recovered design certificate h)

-- or with a condition that is false
abbrev pub EndsVerified : Type 0 → Telling → Type 0
EndsVerified fault t = EndsOverDisk fault t ⊎ (t.ending ≡ ConditionFalse)

module _ (old new : Seen) (t : Telling) where
  tables_end : (d : Design) → VerifiesSchema d old new t → EndsVerified (Rose old.faults new.faults) t
  tables_end d (inl h) = inl (inl (inl h.2.says.0))
  tables_end d (inr h) =
      ⊎_elim (λ over. inl (inr (inl over))) (λ is. inr is)
      (verifying_ends h.tables d old.told new.told (Rose old.faults new.faults) t h.ends)

  verified_ends : (d : Design) (certificate : List ℕ) → VerifiesCertified d certificate old new t
      → EndsVerified (Rose old.faults new.faults) t
  verified_ends d certificate (inl h) = inl (inl (inl h.2.ending))
  verified_ends d certificate (inr h) = tables_end d h.says

  pub verify_ends : (design certificate : List ℕ) → VerifiesFiles design certificate old new t
      → EndsVerified (Rose old.faults new.faults) t
  verify_ends design certificate (inl h) = inl (inl (inl (refusal_ends design (said_in t) h.2)))
  verify_ends design certificate (inr h) = verified_ends h.d certificate h.says

-- where it is known how what is said of the calls ends
module _ (OfCalls : Design → List Call → Seen → Seen → Telling → Type 0) (old new : Seen) (t : Telling)
    (calls_end : (d : Design) (calls : List Call) → OfCalls d calls old new t → EndsOverDisk (Rose old.faults new.faults) t) where
  script_ends : (d : Design) (script : List ℕ) → RunsOfScript OfCalls d script old new t → EndsOverDisk (Rose old.faults new.faults) t
  script_ends d script (inl h) = inl (inr h.2.says.0)
  script_ends d script (inr h) = calls_end d h.calls h.says

  run_certified_ends : (d : Design) (certificate script : List ℕ) → RunsCertified OfCalls d certificate script old new t
      → EndsOverDisk (Rose old.faults new.faults) t
  run_certified_ends d certificate script (inl h) = inl (inl h.2.ending)
  run_certified_ends d certificate script (inr h) = script_ends d script h.says

  texts_end : (design certificate script : List ℕ) → RunsTexts OfCalls design certificate script old new t
      → EndsOverDisk (Rose old.faults new.faults) t
  texts_end design certificate script (inl h) = inl (inl (refusal_ends design (said_in t) h.2))
  texts_end design certificate script (inr h) = run_certified_ends h.d certificate script h.says

module _ (old new : Seen) (t : Telling) where
  order_ends : (order : List ℕ) (d : Design) (calls : List Call) → RunsOfOrder order d calls old new t
      → EndsOverDisk (Rose old.faults new.faults) t
  order_ends order d calls (inl h) = inl (inr h.2.says.0)
  order_ends order d calls (inr h) =
      inr (running_ends d calls h.numbers (IsOpening calls) old.told new.told (Rose old.faults new.faults) t h.ends)

  pub run_ends : (design certificate script order : List ℕ) → RunsFiles design certificate script order old new t
      → EndsOverDisk (Rose old.faults new.faults) t
  run_ends design certificate script order = texts_end (RunsOfOrder order) old new t (order_ends order) design certificate script

  workers_end : (d : Design) (calls : List Call) → WorksSeen d calls old new t → EndsOverDisk (Rose old.faults new.faults) t
  workers_end d calls h = inr (running_ends d calls [] (WorkersLeave d calls) old.told new.told (Rose old.faults new.faults) t h)

  pub work_ends : (design certificate script : List ℕ) → WorksFiles design certificate script old new t
      → EndsOverDisk (Rose old.faults new.faults) t
  work_ends = texts_end WorksSeen old new t workers_end

pub over_unbegun : (fault : Type 0) (t : Telling) → EndsOver fault t → t.ending ≡ Unbegun → ⊥
over_unbegun fault t (inl is) e = other_end Done Unbegun t (λ e. cc) is e
over_unbegun fault t (inr (inl is)) e = other_end JournalRefused Unbegun t (λ e. cc) is e
over_unbegun fault t (inr (inr is)) e = other_end DiskFailed Unbegun t (λ e. cc) is.0 e

over_failed : (fault : Type 0) (t : Telling) → EndsOver fault t → t.ending ≡ DiskFailed → fault
over_failed fault t (inl is) e = absurd (other_end Done DiskFailed t (λ e. cc) is e)
over_failed fault t (inr (inl is)) e = absurd (other_end JournalRefused DiskFailed t (λ e. cc) is e)
over_failed fault t (inr (inr is)) e = is.1

pub failed_by : (fault : Type 0) (t : Telling) → EndsOverDisk fault t → t.ending ≡ DiskFailed → fault
failed_by fault t (inl (inl is)) e = absurd (other_end DesignRefused DiskFailed t (λ e. cc) is e)
failed_by fault t (inl (inr is)) e = absurd (other_end ScriptRefused DiskFailed t (λ e. cc) is e)
failed_by fault t (inr (inl h)) e = over_failed fault t h e
failed_by fault t (inr (inr is)) e = absurd (other_end Unbegun DiskFailed t (λ e. cc) is e)

over_open : (fault : Type 0) (t : Telling) → EndsOver fault t → t.ending ≡ Open → ⊥
over_open fault t (inl is) e = other_end Done Open t (λ e. cc) is e
over_open fault t (inr (inl is)) e = other_end JournalRefused Open t (λ e. cc) is e
over_open fault t (inr (inr is)) e = other_end DiskFailed Open t (λ e. cc) is.0 e

pub never_open : (fault : Type 0) (t : Telling) → EndsOverDisk fault t → t.ending ≡ Open → ⊥
never_open fault t (inl (inl is)) e = other_end DesignRefused Open t (λ e. cc) is e
never_open fault t (inl (inr is)) e = other_end ScriptRefused Open t (λ e. cc) is e
never_open fault t (inr (inl h)) e = over_open fault t h e
never_open fault t (inr (inr is)) e = other_end Unbegun Open t (λ e. cc) is e

pub over_true : (fault : Type 0) (t : Telling) → EndsOver fault t → t.ending ≡ ConditionFalse → ⊥
over_true fault t (inl is) e = other_end Done ConditionFalse t (λ e. cc) is e
over_true fault t (inr (inl is)) e = other_end JournalRefused ConditionFalse t (λ e. cc) is e
over_true fault t (inr (inr is)) e = other_end DiskFailed ConditionFalse t (λ e. cc) is.0 e

pub never_false : (fault : Type 0) (t : Telling) → EndsOverDisk fault t → t.ending ≡ ConditionFalse → ⊥
never_false fault t (inl (inl is)) e = other_end DesignRefused ConditionFalse t (λ e. cc) is e
never_false fault t (inl (inr is)) e = other_end ScriptRefused ConditionFalse t (λ e. cc) is e
never_false fault t (inr (inl h)) e = over_true fault t h e
never_false fault t (inr (inr is)) e = other_end Unbegun ConditionFalse t (λ e. cc) is e
