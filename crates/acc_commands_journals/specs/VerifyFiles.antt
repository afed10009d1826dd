-- The command verify: the journal of a design that is accepted with its certificate, and has TPC-C's tables, is recovered, and it is told
-- which consistency conditions are true of the recovered rows.
use Rattle.std.specs.Prelude.{◌≡◌, ◌⊎◌, ℕ, List, Option}
use Rattle.acc_base.specs.declared.designs.Design.{Design}
use Rattle.acc_base.specs.declared.machines.Event.{Event}
use Rattle.acc_io.specs.Causes.{Rose}
use Rattle.acc_commands_inputs.specs.Admissions.{IsAcceptedWith}
use Rattle.acc_formed.specs.WellFormed.{IsWellFormed}
use Rattle.acc_commands_inputs.specs.Texts.{IsDesignText}
use Rattle.tpcc_tables.specs.Schema.{IsSchemaOf}
use Rattle.tpcc_tables.specs.declared.tables.TableSet.{TableSet}
use Rattle.acc_journalled.specs.Recoveries.{LeavesRecovery}
use Rattle.acc_journalled.specs.Recovering.{Recovers, done_with}
use Rattle.acc_journalled.specs.Verifying.{VerifiesJournal, verdicts_text}
use Rattle.acc_journalled.specs.Tellings.{Telling}
use Rattle.acc_commands_journals.specs.Disks.{Seen, WithoutDisk, LeavesSo}
use Rattle.acc_commands_journals.specs.RecoverFiles.{LeavesAccepted, RecoverLeaves, TellsNoneOr, StopsDurable, StopsAccepted, StopsDesign}
use Rattle.acc_commands_inputs.specs.Refusals.{RefusesDesign, RefusesCertificate}
use Rattle.acc_commands_inputs.specs.Schemas.{RefusesSchema}

-- the journal is recovered and judged, or isn't recovered for some cause
abbrev pub VerifiesSeen : TableSet → Design → Seen → Seen → Telling → Type 0
VerifiesSeen s d old new t = VerifiesJournal s d old.told new.told (Rose old.faults new.faults) t

-- these are TPC-C's tables in the design, and then the disk decides
pub record VerifiesTables (d : Design) (old new : Seen) (t : Telling) : Type 0 where
  pub tables : TableSet
  pub schema : IsSchemaOf tables d
  pub ends : VerifiesSeen tables d old new t

abbrev pub VerifiesSchema : Design → Seen → Seen → Telling → Type 0
VerifiesSchema d old new t = WithoutDisk (RefusesSchema d) old new t ⊎ VerifiesTables d old new t

-- the design is accepted with the certificate, and so it is sound, and then its tables decide
pub record VerifiesAccepted (d : Design) (certificate : List ℕ) (old new : Seen) (t : Telling) : Type 0 where
  pub accepted : IsAcceptedWith d certificate
  pub says : VerifiesSchema d old new t

abbrev pub VerifiesCertified : Design → List ℕ → Seen → Seen → Telling → Type 0
VerifiesCertified d certificate old new t =
    WithoutDisk (RefusesCertificate d certificate) old new t ⊎ VerifiesAccepted d certificate old new t

-- the text is that of this design, which is well-formed, and then the certificate decides
pub record VerifiesDesign (design certificate : List ℕ) (old new : Seen) (t : Telling) : Type 0 where
  pub d : Design
  pub is_text : IsDesignText design d
  pub formed : IsWellFormed d
  pub says : VerifiesCertified d certificate old new t

-- the order of the refusals: the design, the certificate, the tables, the journal
abbrev pub VerifiesFiles : List ℕ → List ℕ → Seen → Seen → Telling → Type 0
VerifiesFiles design certificate old new t =
    WithoutDisk (RefusesDesign design) old new t ⊎ VerifiesDesign design certificate old new t

-- these are TPC-C's tables in the design, and this is the recovered history of its journal, of which something can be said
pub record TellsTables (d : Design) (told told' : Option (List ℕ)) (history : List Event) (settled : ℕ) : Type 0 where
  pub tables : TableSet
  pub schema : IsSchemaOf tables d
  pub text : List ℕ
  pub recovers : Recovers (verdicts_text tables) d told told' (done_with text history settled)

-- the design is accepted with the certificate, and so
pub record TellsVerified (d : Design) (certificate : List ℕ) (told told' : Option (List ℕ)) (history : List Event) (settled : ℕ) : Type 0
  where
    pub accepted : IsAcceptedWith d certificate
    pub tells : TellsTables d told told' history settled

-- the text is that of this design, and so
pub record TellsVerifiedDesign (design certificate : List ℕ) (told told' : Option (List ℕ)) (history : List Event) (settled : ℕ) : Type 0
  where
    pub d : Design
    pub is_text : IsDesignText design d
    pub formed : IsWellFormed d
    pub tells : TellsVerified d certificate told told' history settled

module _ {D : Type 0} (clock : D → ℕ) (left_since : D → ℕ → List ℕ → Type 0) (told : D → Option (List ℕ)) (may_leave : D → List ℕ → Type 0)
    (faults : D → ℕ) where
  -- what a crash leaves is what it leaves of `recover`; no event is told or the recovered history, likewise
  pub record VerifyLeft (design certificate : List ℕ) (old new : D) (history : List Event) (settled : ℕ) : Type 0 where
    pub leaves : LeavesSo clock left_since told may_leave (RecoverLeaves design certificate) old new
    pub tells : TellsNoneOr
        (TellsVerifiedDesign design certificate (told old) (told new) history settled
        ⊎ StopsDesign told may_leave faults design certificate old new history settled) history settled

  -- the same of a design, with its certificate
  pub record CertifiedLeft (d : Design) (certificate : List ℕ) (old new : D) (history : List Event) (settled : ℕ) : Type 0 where
    pub leaves : LeavesSo clock left_since told may_leave (LeavesAccepted d certificate) old new
    pub tells : TellsNoneOr
        (TellsVerified d certificate (told old) (told new) history settled
        ⊎ StopsAccepted told may_leave faults d certificate old new history settled) history settled

  -- the same of an accepted design
  pub record TablesLeft (d : Design) (old new : D) (history : List Event) (settled : ℕ) : Type 0 where
    pub leaves : LeavesSo clock left_since told may_leave (LeavesRecovery d) old new
    pub tells : TellsNoneOr
        (TellsTables d (told old) (told new) history settled ⊎ StopsDurable told may_leave faults d old new history settled)
        history settled
