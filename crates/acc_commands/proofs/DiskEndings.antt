-- How a command over a journal ends.
use Rattle.std.proofs.Common.{◌≡◌, ◌⊎◌, ℕ, List, [], ◌∷◌, inl, inr, refl, ⊎_elim}
use Rattle.acc_io.specs.Causes.{Rose}
use Rattle.acc_commands_journals.specs.Command.{Command}
use Rattle.acc_commands_journals.specs.Command.TheVariants as command
use Rattle.acc_journalled.specs.declared.answers.Ending.TheVariants.{ConditionFalse}
use Rattle.acc_journalled.specs.declared.answers.Wanted.TheVariants.{Counts, Rows, Replies}
use Rattle.acc_journalled.specs.Recovering.{text_of}
use Rattle.acc_journalled.specs.Tellings.{Telling}
use Rattle.acc_commands_journals.specs.Disks.{Seen}
use Rattle.acc_commands.specs.Means.{MeansOverDisk}
use Rattle.acc_commands.specs.Overs.{FindsFalse}
use Rattle.acc_commands.proofs.VerifyOvers.{verify_false}
use Rattle.acc_commands_journals.proofs.JournalEndings.{EndsOverDisk, init_ends, recover_ends, book_ends, migrate_ends, run_ends, work_ends, verify_ends}

-- as others do, or it is `verify`, and a condition is false
abbrev pub EndsAnyhow : Command → Seen → Seen → Telling → Type 0
EndsAnyhow c old new t =
    EndsOverDisk (Rose old.faults new.faults) t ⊎ ((c ≡ command.Verify) × (t.ending ≡ ConditionFalse) × FindsFalse old new t)

pub ends_over_disk : (c : Command) (files : List (List ℕ)) (old new : Seen) (t : Telling) → MeansOverDisk c files old new t
    → EndsAnyhow c old new t
unfolding MeansOverDisk
ends_over_disk command.Init [] old new t h = absurd h
ends_over_disk command.Init (design ∷ []) old new t h = inl (init_ends design old new t h)
ends_over_disk command.Init (design ∷ more ∷ rest) old new t h = absurd h
ends_over_disk command.Recover [] old new t h = absurd h
ends_over_disk command.Recover (design ∷ []) old new t h = absurd h
ends_over_disk command.Recover (design ∷ certificate ∷ []) old new t h = inl (recover_ends (text_of Counts) old new t design certificate h)
ends_over_disk command.Recover (design ∷ certificate ∷ more ∷ rest) old new t h = absurd h
ends_over_disk command.Dump [] old new t h = absurd h
ends_over_disk command.Dump (design ∷ []) old new t h = absurd h
ends_over_disk command.Dump (design ∷ certificate ∷ []) old new t h = inl (recover_ends (text_of Rows) old new t design certificate h)
ends_over_disk command.Dump (design ∷ certificate ∷ more ∷ rest) old new t h = absurd h
ends_over_disk command.Replies [] old new t h = absurd h
ends_over_disk command.Replies (design ∷ []) old new t h = absurd h
ends_over_disk command.Replies (design ∷ certificate ∷ []) old new t h = inl (recover_ends (text_of Replies) old new t design certificate h)
ends_over_disk command.Replies (design ∷ certificate ∷ more ∷ rest) old new t h = absurd h
ends_over_disk command.Verify [] old new t h = absurd h
ends_over_disk command.Verify (design ∷ []) old new t h = absurd h
ends_over_disk command.Verify (design ∷ certificate ∷ []) old new t h =
    ⊎_elim (λ others. inl others) (λ is. inr (refl, is, verify_false old new t design certificate is h))
    (verify_ends old new t design certificate h)
ends_over_disk command.Verify (design ∷ certificate ∷ more ∷ rest) old new t h = absurd h
ends_over_disk command.Migrate [] old new t h = absurd h
ends_over_disk command.Migrate (design ∷ []) old new t h = absurd h
ends_over_disk command.Migrate (design ∷ certificate ∷ []) old new t h = absurd h
ends_over_disk command.Migrate (design ∷ certificate ∷ source ∷ []) old new t h = inl (migrate_ends source old new t design certificate h)
ends_over_disk command.Migrate (design ∷ certificate ∷ source ∷ more ∷ rest) old new t h = absurd h
ends_over_disk command.BookingVerify [] old new t h = absurd h
ends_over_disk command.BookingVerify (design ∷ []) old new t h = absurd h
ends_over_disk command.BookingVerify (design ∷ certificate ∷ []) old new t h = inl (book_ends old new t design certificate h)
ends_over_disk command.BookingVerify (design ∷ certificate ∷ more ∷ rest) old new t h = absurd h
ends_over_disk (command.Advise side) files old new t h = absurd h
ends_over_disk command.Audit files old new t h = absurd h
ends_over_disk (command.Follow size) files old new t h = absurd h
ends_over_disk command.TpccDesign files old new t h = absurd h
ends_over_disk command.BookingDesign files old new t h = absurd h
ends_over_disk (command.TpccLoad scale) files old new t h = absurd h
ends_over_disk (command.TpccMix mix) files old new t h = absurd h
ends_over_disk (command.Bench mix) files old new t h = absurd h
ends_over_disk command.Play files old new t h = absurd h
ends_over_disk command.Rehearse files old new t h = absurd h
ends_over_disk command.Sched [] old new t h = absurd h
ends_over_disk command.Sched (design ∷ []) old new t h = absurd h
ends_over_disk command.Sched (design ∷ certificate ∷ []) old new t h = absurd h
ends_over_disk command.Sched (design ∷ certificate ∷ script ∷ []) old new t h = absurd h
ends_over_disk command.Sched (design ∷ certificate ∷ script ∷ order ∷ []) old new t h =
    inl (run_ends old new t design certificate script order h)
ends_over_disk command.Sched (design ∷ certificate ∷ script ∷ order ∷ more ∷ rest) old new t h = absurd h
ends_over_disk (command.Run workers) [] old new t h = absurd h
ends_over_disk (command.Run workers) (design ∷ []) old new t h = absurd h
ends_over_disk (command.Run workers) (design ∷ certificate ∷ []) old new t h = absurd h
ends_over_disk (command.Run workers) (design ∷ certificate ∷ script ∷ []) old new t h = inl (work_ends old new t design certificate script h)
ends_over_disk (command.Run workers) (design ∷ certificate ∷ script ∷ more ∷ rest) old new t h = absurd h
ends_over_disk command.Print files old new t h = absurd h
ends_over_disk command.Draw files old new t h = absurd h
ends_over_disk command.Check files old new t h = absurd h
ends_over_disk command.Prove files old new t h = absurd h
ends_over_disk command.Help files old new t h = absurd h
ends_over_disk command.Version files old new t h = absurd h
