-- What recovery answers.
use Rattle.std.specs.Prelude.{◌≡◌, ℕ, List, Option, IfSome}
use Rattle.acc_base.specs.declared.designs.Design.{Design}
use Rattle.acc_base.specs.declared.machines.Event.{Event}
use Rattle.acc_base.specs.Machine.{World, start}
use Rattle.acc_base.specs.Lawful.{LeadLawfully}
use Rattle.acc_print.specs.Designs.{printed}
use Rattle.acc_machine.specs.Running.{Running}
use Rattle.acc_wal.specs.Journals.{Counts}
use Rattle.acc_machine.specs.Kept.{IsKept}
use Rattle.acc_wal.specs.Wals.{Journal, IsOpened}
use Rattle.acc_recover.specs.Recoveries.{IsRecovery, LeavesUnfinished}
use Rattle.acc_recover.specs.Seals.{IsSealed}

-- The file, if its bytes are told, is a journal of the design's printed text with some events. The state is the recovered one of these,
-- the journal has its events, all of them durable, and so many transactions were unfinished after those that were found. It has the states
-- of the file, and each of these is the text of the rows at its place.
pub record RecoversFile {D : Type 0} (d : Design) (told : Option (List ℕ)) (w : World) (wal : Journal D) (compensated : ℕ) : Type 0 where
  pub found : List Event
  pub counts : IfSome told (λ file. Counts file (printed d) found)
  pub recovery : IsRecovery d found w
  pub settled : IsOpened (printed d) w.events wal
  pub unfinished_were : LeavesUnfinished d found compensated
  pub sealed : IfSome told (IsSealed d wal.version found wal.seals)

-- the state of this design after the journal's durable events, where its base text is the design's
pub record IsReplayed {D : Type 0} (d : Design) (wal : Journal D) (state : Running) : Type 0 where
  pub text : wal.base ≡ printed d
  pub design : state.design ≡ d
  pub comes : LeadLawfully d start wal.durable state.world
  pub kept : IsKept state.design state.world
