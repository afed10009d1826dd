-- The command init: a journal is made for a design, on a disk that holds none.
use Rattle.std.specs.Prelude.{◌≡◌, ◌⊎◌, ℕ, List, [], Option}
use Rattle.acc_base.specs.declared.designs.Design.{Design}
use Rattle.acc_base.specs.declared.machines.Event.{Event}
use Rattle.acc_io.specs.Causes.{Rose}
use Rattle.acc_formed.specs.WellFormed.{IsWellFormed}
use Rattle.acc_commands_inputs.specs.Texts.{IsDesignText}
use Rattle.acc_print.specs.Designs.{printed}
use Rattle.acc_wal.specs.Creating.{LeavesNew}
use Rattle.acc_journalled.specs.Making.{MakesJournal}
use Rattle.acc_journalled.specs.Tellings.{Telling}
use Rattle.acc_commands_journals.specs.Disks.{Seen, WithoutDisk, LeavesSo}
use Rattle.acc_commands_inputs.specs.Refusals.{RefusesDesign}

-- the journal is made, is there already, or the disk failed
abbrev pub InitsJournal : Design → Seen → Seen → Telling → Type 0
InitsJournal d old new t = MakesJournal d old.told new.told (Rose old.faults new.faults) t

-- the text is that of this design, which is well-formed, and then the disk decides
pub record InitsDesign (design : List ℕ) (old new : Seen) (t : Telling) : Type 0 where
  pub d : Design
  pub is_text : IsDesignText design d
  pub formed : IsWellFormed d
  pub ends : InitsJournal d old new t

-- the order of the refusals: the design, the journal
abbrev pub InitsFile : List ℕ → Seen → Seen → Telling → Type 0
InitsFile design old new t = WithoutDisk (RefusesDesign design) old new t ⊎ InitsDesign design old new t

-- a crash leaves the file; or, where the design isn't refused, no journal, the new one, or the file with another first byte
pub record LeavesMade (design file image : List ℕ) : Type 0 where
  pub d : Design
  pub is_text : IsDesignText design d
  pub formed : IsWellFormed d
  pub left : LeavesNew file (printed d) image

abbrev pub InitLeaves : List ℕ → List ℕ → List ℕ → Type 0
InitLeaves design file image = (image ≡ file) ⊎ LeavesMade design file image

-- no event is told, and this is what a crash leaves
pub record InitLeft {D : Type 0} (clock : D → ℕ) (left_since : D → ℕ → List ℕ → Type 0) (told : D → Option (List ℕ))
    (may_leave : D → List ℕ → Type 0) (design : List ℕ) (old new : D) (history : List Event) (settled : ℕ) : Type 0 where
  pub leaves : LeavesSo clock left_since told may_leave (InitLeaves design) old new
  pub none : history ≡ []
  pub none_settled : settled ≡ 0
