-- Where a command that recovers a journal comes through, the last state of the journal stands behind all that has grown.
use Rattle.std.proofs.Common.{◌≡◌, ℕ, List, [], ◌∷◌, inl, inr, refl, sym, subst, ◌∙◌, ⊎_elim}
use Rattle.std.specs.Prelude.{◌⊎◌}
use Rattle.acc_io.specs.Causes.{Rose}
use Rattle.acc_base.specs.declared.designs.Design.{Design}
use Rattle.acc_base.specs.declared.machines.Call.{Call}
use Rattle.acc_base.specs.declared.machines.Event.{Event}
use Rattle.acc_base.specs.Machine.{World}
use Rattle.acc_base.specs.Plays.{Play}
use Rattle.acc_journalled.specs.declared.answers.Ending.{Ending}
use Rattle.acc_journalled.specs.declared.answers.Ending.TheVariants.{DesignRefused, ScriptRefused, JournalRefused, DiskFailed}
use Rattle.acc_journalled.specs.declared.answers.Wanted.TheVariants.{Counts, Rows, Replies}
use Rattle.acc_journalled.specs.Recovering.{EndsUntold, text_of}
use Rattle.acc_journalled.specs.Sealing.{SealsGrowth}
use Rattle.acc_journalled.specs.Tellings.{Telling}
use Rattle.acc_commands_journals.specs.BookingFiles.{say_seats}
use Rattle.acc_commands_journals.specs.Command.{Command}
use Rattle.acc_commands_journals.specs.Command.TheVariants as command
use Rattle.acc_commands_journals.specs.Disks.{Seen}
use Rattle.acc_commands_journals.specs.RecoverFiles.{Saying, RecoversSeen, RecoversCertified, RecoversFiles}
use Rattle.acc_commands_journals.specs.RunFiles.{RunsOfOrder, WorksSeen, RunsOfScript, RunsCertified, RunsTexts}
use Rattle.acc_commands_journals.specs.Running.{RunsFrom, IsOpening, WorkersLeave}
use Rattle.acc_commands_journals.specs.Text.{said_in}
use Rattle.acc_commands_journals.specs.Texts.{IsDesignText}
use Rattle.acc_commands_journals.specs.VerifyFiles.{VerifiesSeen, VerifiesSchema, VerifiesCertified, VerifiesFiles}
use Rattle.acc_commands_journals.proofs.JournalEndings.{EndsOver, refusal_ends, untold_ends, untold_done, refused_or_recovered}
use Rattle.tpcc_tables.specs.declared.tables.TableSet.{TableSet}
use Rattle.acc_commands.specs.Means.{MeansOverDisk}
use Rattle.acc_commands.specs.Overs.{IsRecovering}

-- something stood against it, or a call of the disk failed
abbrev pub IsStopped : Ending → Type 0
IsStopped ending = (ending ≡ DesignRefused) ⊎ (ending ≡ ScriptRefused) ⊎ (ending ≡ JournalRefused) ⊎ (ending ≡ DiskFailed)

-- the first of the files is a text of this design, and the last state stands behind all that has grown
pub record Grows (files : List (List ℕ)) (old new : Seen) (history : List Event) : Type 0 where
  pub design : List ℕ
  pub others : List (List ℕ)
  pub are_files : files ≡ design ∷ others
  pub d : Design
  pub is_text : IsDesignText design d
  pub grown : SealsGrowth d old.told new.told history

module _ (old new : Seen) (t : Telling) where
  abbrev Fault : Type 0
  Fault = Rose old.faults new.faults

  -- of an accepted design: it is stopped, or so
  abbrev GrowsOf : Design → Type 0
  GrowsOf d = IsStopped t.ending ⊎ SealsGrowth d old.told new.told t.history

  untold : (d : Design) → EndsUntold d old.told new.told Fault t → GrowsOf d
  untold d h = by (untold_ends d old.told new.told Fault t h)
    where
      by : EndsOver Fault t → GrowsOf d
      by (inl done) = absurd (untold_done d old.told new.told Fault t h done)
      by (inr (inl refused)) = inl (inr (inr (inl refused)))
      by (inr (inr failed)) = inl (inr (inr (inr failed.0)))

  grown_by : (d : Design) (events : List Event) → t.history ≡ events → SealsGrowth d old.told new.told events → GrowsOf d
  grown_by d events is grown = inr (subst (SealsGrowth d old.told new.told) (sym is) grown)

  -- ---- a recovery

  seen_grows : (say : Saying) (d : Design) → RecoversSeen say d old new t → GrowsOf d
  seen_grows say d (inl r) = grown_by d r.last.events r.says.2 r.grown
  seen_grows say d (inr r) = untold d r

  certified_grows : (say : Saying) (d : Design) (certificate : List ℕ) → RecoversCertified say d certificate old new t → GrowsOf d
  certified_grows say d certificate (inl h) = inl (inl h.2.ending)
  certified_grows say d certificate (inr h) = seen_grows say d h.ends

  module _ (design : List ℕ) (others : List (List ℕ)) where
    abbrev GrowsHere : Type 0
    GrowsHere = IsStopped t.ending ⊎ Grows (design ∷ others) old new t.history

    grows_here : (d : Design) → IsDesignText design d → GrowsOf d → GrowsHere
    grows_here d is_text (inl stopped) = inl stopped
    grows_here d is_text (inr grown) =
        inr (record { design = design; others = others; are_files = refl; d = d; is_text = is_text; grown = grown })

    recover_grows : (say : Saying) (certificate : List ℕ) → RecoversFiles say design certificate old new t → GrowsHere
    recover_grows say certificate (inl h) = inl (inl (refusal_ends design (said_in t) h.2))
    recover_grows say certificate (inr h) = grows_here h.d h.is_text (certified_grows say h.d certificate h.says)

    -- ---- `verify`

    judged_grows : (s : TableSet) (d : Design) → VerifiesSeen s d old new t → GrowsOf d
    judged_grows s d (inl v) = grown_by d v.recovers.last.events v.recovers.says.2 v.recovers.grown
    judged_grows s d (inr r) = untold d r

    tables_grow : (d : Design) → VerifiesSchema d old new t → GrowsOf d
    tables_grow d (inl h) = inl (inl h.2.says.0)
    tables_grow d (inr h) = judged_grows h.tables d h.ends

    verified_grows : (d : Design) (certificate : List ℕ) → VerifiesCertified d certificate old new t → GrowsOf d
    verified_grows d certificate (inl h) = inl (inl h.2.ending)
    verified_grows d certificate (inr h) = tables_grow d h.says

    verify_grows : (certificate : List ℕ) → VerifiesFiles design certificate old new t → GrowsHere
    verify_grows certificate (inl h) = inl (inl (refusal_ends design (said_in t) h.2))
    verify_grows certificate (inr h) = grows_here h.d h.is_text (verified_grows h.d certificate h.says)

  -- ---- a run

  running_grows : (d : Design) (calls : List Call) (order : List ℕ) (Opens : World → Play → Type 0)
      → RunsFrom d calls order Opens old.told new.told Fault t → GrowsOf d
  running_grows d calls order Opens (inl h) = inr h.grown
  running_grows d calls order Opens (inr (inl h)) = inl (inr (inr (inr h.ending)))
  running_grows d calls order Opens (inr (inr h)) = untold d (inl h)

  order_grows : (order : List ℕ) (d : Design) (calls : List Call) → RunsOfOrder order d calls old new t → GrowsOf d
  order_grows order d calls (inl h) = inl (inr (inl h.2.says.0))
  order_grows order d calls (inr h) = running_grows d calls h.numbers (IsOpening calls) h.ends

  workers_grow : (d : Design) (calls : List Call) → WorksSeen d calls old new t → GrowsOf d
  workers_grow d calls h = running_grows d calls [] (WorkersLeave d calls) h

  module _ (OfCalls : Design → List Call → Seen → Seen → Telling → Type 0)
      (grow : (d : Design) (calls : List Call) → OfCalls d calls old new t → GrowsOf d) where
    script_grows : (d : Design) (script : List ℕ) → RunsOfScript OfCalls d script old new t → GrowsOf d
    script_grows d script (inl h) = inl (inr (inl h.2.says.0))
    script_grows d script (inr h) = grow d h.calls h.says

    run_certified_grows : (d : Design) (certificate script : List ℕ) → RunsCertified OfCalls d certificate script old new t → GrowsOf d
    run_certified_grows d certificate script (inl h) = inl (inl h.2.ending)
    run_certified_grows d certificate script (inr h) = script_grows d script h.says

    texts_grow : (design certificate script : List ℕ) (others : List (List ℕ)) → RunsTexts OfCalls design certificate script old new t
        → GrowsHere design others
    texts_grow design certificate script others (inl h) = inl (inl (refusal_ends design (said_in t) h.2))
    texts_grow design certificate script others (inr h) =
        grows_here design others h.d h.is_text (run_certified_grows h.d certificate script h.says)

-- a command that recovers a journal is stopped, or so
abbrev pub GrowsBy : List (List ℕ) → Seen → Seen → Telling → Type 0
GrowsBy files old new t = IsStopped t.ending ⊎ Grows files old new t.history

init_recovers_none : IsRecovering command.Init → ⊥
init_recovers_none (inl e) = cc
init_recovers_none (inr (inl e)) = cc
init_recovers_none (inr (inr (inl e))) = cc
init_recovers_none (inr (inr (inr (inl e)))) = cc
init_recovers_none (inr (inr (inr (inr (inl e))))) = cc
init_recovers_none (inr (inr (inr (inr (inr (inl e)))))) = cc
init_recovers_none (inr (inr (inr (inr (inr (inr (workers, e))))))) = cc

migrate_recovers_none : IsRecovering command.Migrate → ⊥
migrate_recovers_none (inl e) = cc
migrate_recovers_none (inr (inl e)) = cc
migrate_recovers_none (inr (inr (inl e))) = cc
migrate_recovers_none (inr (inr (inr (inl e)))) = cc
migrate_recovers_none (inr (inr (inr (inr (inl e))))) = cc
migrate_recovers_none (inr (inr (inr (inr (inr (inl e)))))) = cc
migrate_recovers_none (inr (inr (inr (inr (inr (inr (workers, e))))))) = cc

pub growth_over : (c : Command) (files : List (List ℕ)) (old new : Seen) (t : Telling) → IsRecovering c → MeansOverDisk c files old new t
    → GrowsBy files old new t
unfolding MeansOverDisk
growth_over command.Sched [] old new t is h = absurd h
growth_over command.Sched (design ∷ []) old new t is h = absurd h
growth_over command.Sched (design ∷ certificate ∷ []) old new t is h = absurd h
growth_over command.Sched (design ∷ certificate ∷ script ∷ []) old new t is h = absurd h
growth_over command.Sched (design ∷ certificate ∷ script ∷ order ∷ []) old new t is h =
    texts_grow old new t (RunsOfOrder order) (order_grows old new t order) design certificate script (certificate ∷ script ∷ order ∷ []) h
growth_over command.Sched (design ∷ certificate ∷ script ∷ order ∷ more ∷ rest) old new t is h = absurd h
growth_over (command.Run workers) [] old new t is h = absurd h
growth_over (command.Run workers) (design ∷ []) old new t is h = absurd h
growth_over (command.Run workers) (design ∷ certificate ∷ []) old new t is h = absurd h
growth_over (command.Run workers) (design ∷ certificate ∷ script ∷ []) old new t is h =
    texts_grow old new t WorksSeen (workers_grow old new t) design certificate script (certificate ∷ script ∷ []) h
growth_over (command.Run workers) (design ∷ certificate ∷ script ∷ more ∷ rest) old new t is h = absurd h
growth_over command.Recover [] old new t is h = absurd h
growth_over command.Recover (design ∷ []) old new t is h = absurd h
growth_over command.Recover (design ∷ certificate ∷ []) old new t is h =
    recover_grows old new t design (certificate ∷ []) (text_of Counts) certificate h
growth_over command.Recover (design ∷ certificate ∷ more ∷ rest) old new t is h = absurd h
growth_over command.Dump [] old new t is h = absurd h
growth_over command.Dump (design ∷ []) old new t is h = absurd h
growth_over command.Dump (design ∷ certificate ∷ []) old new t is h =
    recover_grows old new t design (certificate ∷ []) (text_of Rows) certificate h
growth_over command.Dump (design ∷ certificate ∷ more ∷ rest) old new t is h = absurd h
growth_over command.Replies [] old new t is h = absurd h
growth_over command.Replies (design ∷ []) old new t is h = absurd h
growth_over command.Replies (design ∷ certificate ∷ []) old new t is h =
    recover_grows old new t design (certificate ∷ []) (text_of Replies) certificate h
growth_over command.Replies (design ∷ certificate ∷ more ∷ rest) old new t is h = absurd h
growth_over command.Verify [] old new t is h = absurd h
growth_over command.Verify (design ∷ []) old new t is h = absurd h
growth_over command.Verify (design ∷ certificate ∷ []) old new t is h = verify_grows old new t design (certificate ∷ []) certificate h
growth_over command.Verify (design ∷ certificate ∷ more ∷ rest) old new t is h = absurd h
growth_over command.BookingVerify [] old new t is h = absurd h
growth_over command.BookingVerify (design ∷ []) old new t is h = absurd h
growth_over command.BookingVerify (design ∷ certificate ∷ []) old new t is h =
    ⊎_elim (λ other. inl (inl other.2.0))
    (λ found. recover_grows old new t design (certificate ∷ []) say_seats certificate found)
    (refused_or_recovered old new t design certificate h)
growth_over command.BookingVerify (design ∷ certificate ∷ more ∷ rest) old new t is h = absurd h
growth_over command.Init files old new t is h = absurd (init_recovers_none is)
growth_over command.Migrate files old new t is h = absurd (migrate_recovers_none is)
growth_over command.Play files old new t is h = absurd h
growth_over command.Rehearse files old new t is h = absurd h
growth_over command.Print files old new t is h = absurd h
growth_over command.Draw files old new t is h = absurd h
growth_over command.Check files old new t is h = absurd h
growth_over command.Prove files old new t is h = absurd h
growth_over (command.Advise side) files old new t is h = absurd h
growth_over command.Audit files old new t is h = absurd h
growth_over (command.Follow size) files old new t is h = absurd h
growth_over command.TpccDesign files old new t is h = absurd h
growth_over command.BookingDesign files old new t is h = absurd h
growth_over (command.TpccLoad scale) files old new t is h = absurd h
growth_over (command.TpccMix mix) files old new t is h = absurd h
growth_over (command.Bench mix) files old new t is h = absurd h
growth_over command.Help files old new t is h = absurd h
growth_over command.Version files old new t is h = absurd h
