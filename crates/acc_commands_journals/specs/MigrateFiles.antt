-- The command migrate: for a design that is accepted with its certificate, a new journal is made of what is recovered from the bytes of an
-- old one.
use Rattle.std.specs.Prelude.{◌≡◌, ◌⊎◌, ℕ, List, Option}
use Rattle.acc_base.specs.declared.designs.Design.{Design}
use Rattle.acc_base.specs.declared.machines.Event.{Event}
use Rattle.acc_io.specs.Causes.{Rose}
use Rattle.acc_commands_inputs.specs.Admissions.{IsAcceptedWith}
use Rattle.acc_formed.specs.WellFormed.{IsWellFormed}
use Rattle.acc_commands_inputs.specs.Texts.{IsDesignText}
use Rattle.acc_journalled.specs.Migrating.{LeavesMigrated, Migrates, MigratesJournal}
use Rattle.acc_journalled.specs.Recovering.{done_with}
use Rattle.acc_journalled.specs.Tellings.{Telling}
use Rattle.acc_commands_journals.specs.Disks.{Seen, WithoutDisk, LeavesSo}
use Rattle.acc_commands_journals.specs.RecoverFiles.{TellsNoneOr}
use Rattle.acc_commands_inputs.specs.Refusals.{RefusesDesign, RefusesCertificate}

-- a journal is made of what is recovered from the source's bytes, or isn't for some cause
abbrev pub MigratesSeen : Design → List ℕ → Seen → Seen → Telling → Type 0
MigratesSeen d source old new t = MigratesJournal d source old.told new.told (Rose old.faults new.faults) t

-- the design is accepted with the certificate, and so it is sound, and then the source and the disk decide
pub record MigratesAccepted (d : Design) (certificate source : List ℕ) (old new : Seen) (t : Telling) : Type 0 where
  pub accepted : IsAcceptedWith d certificate
  pub ends : MigratesSeen d source old new t

abbrev pub MigratesCertified : Design → List ℕ → List ℕ → Seen → Seen → Telling → Type 0
MigratesCertified d certificate source old new t =
    WithoutDisk (RefusesCertificate d certificate) old new t ⊎ MigratesAccepted d certificate source old new t

-- the text is that of this design, which is well-formed, and then the certificate decides
pub record MigratesDesign (design certificate source : List ℕ) (old new : Seen) (t : Telling) : Type 0 where
  pub d : Design
  pub is_text : IsDesignText design d
  pub formed : IsWellFormed d
  pub says : MigratesCertified d certificate source old new t

-- the order of the refusals: the design, the certificate, the source, the journal
abbrev pub MigratesFiles : List ℕ → List ℕ → List ℕ → Seen → Seen → Telling → Type 0
MigratesFiles design certificate source old new t =
    WithoutDisk (RefusesDesign design) old new t ⊎ MigratesDesign design certificate source old new t

-- the design is accepted with the certificate, and this is what making its journal leaves of the file
abbrev pub LeavesMigrating : Design → List ℕ → List ℕ → List ℕ → List ℕ → Type 0
LeavesMigrating d certificate source file image = (image ≡ file) ⊎ (IsAcceptedWith d certificate × LeavesMigrated d source file image)

-- A crash leaves the file; or, where neither the design nor its certificate is refused, no journal, the new one with all that was recovered
-- from the source, or the file with another first byte.
pub record LeavesByMigration (design certificate source file image : List ℕ) : Type 0 where
  pub d : Design
  pub is_text : IsDesignText design d
  pub formed : IsWellFormed d
  pub accepted : IsAcceptedWith d certificate
  pub left : LeavesMigrated d source file image

abbrev pub MigrateLeaves : List ℕ → List ℕ → List ℕ → List ℕ → List ℕ → Type 0
MigrateLeaves design certificate source file image = (image ≡ file) ⊎ LeavesByMigration design certificate source file image

-- the design is accepted with the certificate, and a journal is made of what was recovered from the source: this is its history
pub record TellsMade (d : Design) (certificate source : List ℕ) (told told' : Option (List ℕ)) (history : List Event) (settled : ℕ) : Type 0
  where
    pub accepted : IsAcceptedWith d certificate
    pub text : List ℕ
    pub migrates : Migrates d source told told' (done_with text history settled)

-- the text is that of this design, and so
pub record TellsMadeOf (design certificate source : List ℕ) (told told' : Option (List ℕ)) (history : List Event) (settled : ℕ) : Type 0
  where
    pub d : Design
    pub is_text : IsDesignText design d
    pub formed : IsWellFormed d
    pub tells : TellsMade d certificate source told told' history settled

module _ {D : Type 0} (clock : D → ℕ) (left_since : D → ℕ → List ℕ → Type 0) (told : D → Option (List ℕ)) (may_leave : D → List ℕ → Type 0)
  where
    -- what a crash leaves, and no event is told or the history of the new journal
    pub record MigrateLeft (design certificate source : List ℕ) (old new : D) (history : List Event) (settled : ℕ) : Type 0 where
      pub leaves : LeavesSo clock left_since told may_leave (MigrateLeaves design certificate source) old new
      pub tells : TellsNoneOr (TellsMadeOf design certificate source (told old) (told new) history settled) history settled

    -- the same of a design, with its certificate
    pub record MadeLeft (d : Design) (certificate source : List ℕ) (old new : D) (history : List Event) (settled : ℕ) : Type 0 where
      pub leaves : LeavesSo clock left_since told may_leave (LeavesMigrating d certificate source) old new
      pub tells : TellsNoneOr (TellsMade d certificate source (told old) (told new) history settled) history settled
