-- The commands recover, dump, replies and booking verify: the journal of a design that is accepted with its certificate is recovered, and
-- what is to be said of it is told.
use Rattle.std.specs.Prelude.{◌≡◌, ◌⊎◌, ℕ, List, [], Option, Some}
use Rattle.acc_base.specs.declared.designs.Design.{Design}
use Rattle.acc_base.specs.declared.machines.Event.{Event}
use Rattle.acc_base.specs.Machine.{World}
use Rattle.acc_disk.specs.Crashes.{Only}
use Rattle.acc_io.specs.Causes.{Rose}
use Rattle.acc_commands_inputs.specs.Admissions.{IsAcceptedWith}
use Rattle.acc_formed.specs.WellFormed.{IsWellFormed}
use Rattle.acc_commands_inputs.specs.Texts.{IsDesignText}
use Rattle.acc_journalled.specs.Recoveries.{LeavesRecovery}
use Rattle.acc_journalled.specs.Recovering.{Recovers, RecoversJournal, StopsBehind, LeavesTold, done_with}
use Rattle.acc_journalled.specs.Tellings.{Telling}
use Rattle.acc_commands_journals.specs.Disks.{Seen, WithoutDisk, LeavesSo}
use Rattle.acc_commands_inputs.specs.Refusals.{RefusesDesign, RefusesCertificate}

-- what is said of a recovered state of a design, of which so many transactions were compensated
abbrev pub Saying : Type 0
Saying = Design → World → ℕ → List ℕ

-- the journal is recovered, or isn't for some cause
abbrev pub RecoversSeen : Saying → Design → Seen → Seen → Telling → Type 0
RecoversSeen say d old new t = RecoversJournal (say d) d old.told new.told (Rose old.faults new.faults) t

-- the design is accepted with the certificate, and so it is sound, and then the disk decides
pub record RecoversAccepted (say : Saying) (d : Design) (certificate : List ℕ) (old new : Seen) (t : Telling) : Type 0 where
  pub accepted : IsAcceptedWith d certificate
  pub ends : RecoversSeen say d old new t

abbrev pub RecoversCertified : Saying → Design → List ℕ → Seen → Seen → Telling → Type 0
RecoversCertified say d certificate old new t =
    WithoutDisk (RefusesCertificate d certificate) old new t ⊎ RecoversAccepted say d certificate old new t

-- the text is that of this design, which is well-formed, and then the certificate decides
pub record RecoversDesign (say : Saying) (design certificate : List ℕ) (old new : Seen) (t : Telling) : Type 0 where
  pub d : Design
  pub is_text : IsDesignText design d
  pub formed : IsWellFormed d
  pub says : RecoversCertified say d certificate old new t

-- the order of the refusals: the design, the certificate, the journal
abbrev pub RecoversFiles : Saying → List ℕ → List ℕ → Seen → Seen → Telling → Type 0
RecoversFiles say design certificate old new t =
    WithoutDisk (RefusesDesign design) old new t ⊎ RecoversDesign say design certificate old new t

-- the design is accepted with the certificate, and this is what its recovery leaves of the file
abbrev pub LeavesAccepted : Design → List ℕ → List ℕ → List ℕ → Type 0
LeavesAccepted d certificate file image = (image ≡ file) ⊎ (IsAcceptedWith d certificate × LeavesRecovery d file image)

-- A crash leaves the file; or, where neither the design nor its certificate is refused and the file is a journal, one of what it counts,
-- or of the recovered history.
pub record LeavesByDesign (design certificate file image : List ℕ) : Type 0 where
  pub d : Design
  pub is_text : IsDesignText design d
  pub formed : IsWellFormed d
  pub accepted : IsAcceptedWith d certificate
  pub left : LeavesRecovery d file image

abbrev pub RecoverLeaves : List ℕ → List ℕ → List ℕ → List ℕ → Type 0
RecoverLeaves design certificate file image = (image ≡ file) ⊎ LeavesByDesign design certificate file image

-- the design is accepted with the certificate, and this is the recovered history of its journal, of which something can be said
pub record TellsAccepted (say : Saying) (d : Design) (certificate : List ℕ) (told told' : Option (List ℕ)) (history : List Event)
    (settled : ℕ) : Type 0 where
  pub accepted : IsAcceptedWith d certificate
  pub text : List ℕ
  pub recovers : Recovers (say d) d told told' (done_with text history settled)

-- the text is that of this design, and so
pub record TellsDesign (say : Saying) (design certificate : List ℕ) (told told' : Option (List ℕ)) (history : List Event) (settled : ℕ)
    : Type 0 where
  pub d : Design
  pub is_text : IsDesignText design d
  pub formed : IsWellFormed d
  pub tells : TellsAccepted say d certificate told told' history settled

-- no event is told; or what is
abbrev pub TellsNoneOr : Type 0 → List Event → ℕ → Type 0
TellsNoneOr Tells history settled = ((history ≡ []) × (settled ≡ 0)) ⊎ Tells

module _ {D : Type 0} (told : D → Option (List ℕ)) (may_leave : D → List ℕ → Type 0) (faults : D → ℕ) where
  -- The journal was recovered, and the text of the rows isn't put behind the recovered history, since the disk failed there or memory ran
  -- out. From a calm disk a crash afterwards leaves a journal of all that is told.
  pub record StopsDurable (d : Design) (old new : D) (history : List Event) (settled : ℕ) : Type 0 where
    pub stops : StopsBehind d (told old) (told new) (Rose (faults old) (faults new)) history settled
    pub behind : (file : List ℕ) → told old ≡ Some file → Only file (may_leave old) → (image : List ℕ) → may_leave new image
        → LeavesTold d history image

  -- the design is accepted with the certificate, and so
  pub record StopsAccepted (d : Design) (certificate : List ℕ) (old new : D) (history : List Event) (settled : ℕ) : Type 0 where
    pub accepted : IsAcceptedWith d certificate
    pub durable : StopsDurable d old new history settled

  -- the text is that of this design, and so
  pub record StopsDesign (design certificate : List ℕ) (old new : D) (history : List Event) (settled : ℕ) : Type 0 where
    pub d : Design
    pub is_text : IsDesignText design d
    pub formed : IsWellFormed d
    pub stops : StopsAccepted d certificate old new history settled

-- what a crash leaves, and no event is told or the recovered history, of which something can be said or which stops there
pub record RecoverLeft {D : Type 0} (clock : D → ℕ) (left_since : D → ℕ → List ℕ → Type 0) (told : D → Option (List ℕ))
    (may_leave : D → List ℕ → Type 0) (faults : D → ℕ) (say : Saying) (design certificate : List ℕ) (old new : D) (history : List Event)
    (settled : ℕ) : Type 0 where
  pub leaves : LeavesSo clock left_since told may_leave (RecoverLeaves design certificate) old new
  pub tells : TellsNoneOr
      (TellsDesign say design certificate (told old) (told new) history settled
      ⊎ StopsDesign told may_leave faults design certificate old new history settled) history settled

-- the same of a design, with its certificate
pub record AcceptedLeft {D : Type 0} (clock : D → ℕ) (left_since : D → ℕ → List ℕ → Type 0) (told : D → Option (List ℕ))
    (may_leave : D → List ℕ → Type 0) (faults : D → ℕ) (say : Saying) (d : Design) (certificate : List ℕ) (old new : D)
    (history : List Event) (settled : ℕ) : Type 0 where
  pub leaves : LeavesSo clock left_since told may_leave (LeavesAccepted d certificate) old new
  pub tells : TellsNoneOr
      (TellsAccepted say d certificate (told old) (told new) history settled
      ⊎ StopsAccepted told may_leave faults d certificate old new history settled) history settled
