-- What the definitions of the answers say by themselves.
use Rattle.std.specs.Prelude.{◌≡◌, ◌≢◌, ℕ, true, List, [], ◌∷◌, None, Some, codes}
use Rattle.acc_base.specs.declared.designs.Design.{Design}
use Rattle.acc_base.specs.Lines.{line}
use Rattle.acc_formed.specs.WellFormed.{IsWellFormed}
use Rattle.acc_oblig.specs.Laws.{drafts_of, sequents_of}
use Rattle.acc_oblig_goals.specs.Causes.{first_wide}
use Rattle.acc_commands.specs.Texts.{IsDesignText}
use Rattle.acc_commands.specs.Admissions.{IsAcceptedWith}
use Rattle.acc_commands.specs.Provings.{AllClose, IsCertified}
use Rattle.acc_io.specs.Causes.{Rose}
use Rattle.acc_io.specs.Shelves.{Told}
use Rattle.acc_io.specs.declared.counts.Counts.{Counts}
use Rattle.acc_journalled.specs.declared.answers.Ending.TheVariants.{Done}
use Rattle.acc_commands.specs.Command.{Command}
use Rattle.acc_commands.specs.Command.TheVariants.{Check, Prove}
use Rattle.acc_commands.specs.Files.{AreFiles}
use Rattle.acc_commands.specs.Words.{command_of, files_of, is_over_journal}
use Rattle.acc_commands.specs.Disks.{Seen, TellsAll}
use Rattle.acc_cli.specs.declared.status.Status.TheVariants.{Ran}
use Rattle.acc_cli.specs.Replies.{Reply}
use Rattle.acc_cli.specs.Meant.{Meant}
use Rattle.acc_cli.specs.Provings.{AreAlike}

-- On a shelf that tells what stands at each name, a command line means one answer where no read fails, and, if it asks for a command over
-- a journal, the disk tells what it holds and none of its calls fails: two such answers to it are the same, but for which certificate
-- `prove` makes, and for the order of the turns of `run`.
abbrev pub LinesMeanOne : Type 0
LinesMeanOne = (held : List ℕ → Told) (counts one other : Counts) (disk disk_one disk_other : Seen) (words : List (List ℕ)) (a b : Reply)
    → ((name : List ℕ) → held name ≢ None) → ¬ Rose counts.faults one.faults → ¬ Rose counts.faults other.faults
    → (is_over_journal (command_of words) ≡ true → TellsAll disk disk_one disk_other)
    → Meant held counts one disk disk_one words a → Meant held counts other disk disk_other words b → AreAlike words a b

-- the words ask for a command of these files, which a shelf tells that knows what stands at each name, and no read failed
pub record IsGiven (held : List ℕ → Told) (counts now : Counts) (words : List (List ℕ)) (command : Command) (files : List (List ℕ)) : Type 0
  where
    pub tells : (name : List ℕ) → held name ≢ None
    pub no_fault : ¬ Rose counts.faults now.faults
    pub form : command_of words ≡ Some command
    pub given : AreFiles held (files_of command words) files

-- Where nothing fails, `check` answers status 0 and `accepted` to each design that is accepted with the certificate.
abbrev pub AcceptedIsAnswered : Type 0
AcceptedIsAnswered = (held : List ℕ → Told) (counts now : Counts) (disk disk' : Seen) (words : List (List ℕ)) (reply : Reply)
    → Meant held counts now disk disk' words reply
    → (design certificate : List ℕ) → IsGiven held counts now words Check (design ∷ certificate ∷ [])
    → (d : Design) → IsDesignText design d → IsAcceptedWith d certificate
    → (reply.status ≡ Ran Done) × (reply.text ≡ line (codes "accepted"))

-- Where nothing fails, `prove` answers status 0 and a certificate to each well-formed design whose searches all close.
abbrev pub ClosedIsAnswered : Type 0
ClosedIsAnswered = (held : List ℕ → Told) (counts now : Counts) (disk disk' : Seen) (words : List (List ℕ)) (reply : Reply)
    → Meant held counts now disk disk' words reply
    → (design : List ℕ) → IsGiven held counts now words Prove (design ∷ [])
    → (d : Design) → IsDesignText design d → IsWellFormed d → first_wide (drafts_of d) ≡ None → AllClose d (sequents_of d)
    → (reply.status ≡ Ran Done) × IsCertified d reply.text
