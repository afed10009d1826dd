-- What comes of the events of a journal that are done again, and of its states that are compared.
use Rattle.std.specs.Prelude.{List}
use Rattle.acc_base.specs.declared.designs.Design.{Design}
use Rattle.acc_base.specs.declared.machines.Event.{Event}
use Rattle.acc_base.specs.Machine.{World, start}
use Rattle.acc_base.specs.Lawful.{LeadLawfully}
use Rattle.acc_machine.specs.Replays.{IsFirstUnlawful, HasCome}
use Rattle.acc_wal.specs.declared.items.Seal.{Seal}
use Rattle.acc_recover.specs.Seals.{AreFrom, IsFirstDiffering}
use Rattle.acc_recover.specs.declared.errors.RecoverError.{RecoverError}
use Rattle.acc_recover.specs.declared.errors.RecoverError.TheVariants.{Journal, OtherDesign, Unlawful, Differs, Disk, Memory}

-- why not all of the events have come, and where those that have lead
abbrev pub StopsTaking : Design → List Event → World → RecoverError → Type 0
StopsTaking d events here (Unlawful at) = IsFirstUnlawful d start events at here
StopsTaking d events here Memory = HasCome d start events here
StopsTaking d events here (Differs place) = ⊥
StopsTaking d events here (Journal error) = ⊥
StopsTaking d events here OtherDesign = ⊥
StopsTaking d events here Disk = ⊥

-- and why all have come, and yet they are refused: where the states' places never fall, this is the first that differs
abbrev pub StopsReplaying : Design → List Event → List Seal → World → RecoverError → Type 0
StopsReplaying d events seals here (Unlawful at) = IsFirstUnlawful d start events at here
StopsReplaying d events seals here Memory = HasCome d start events here
StopsReplaying d events seals here (Differs place) =
    LeadLawfully d start events here × (AreFrom 0 seals → IsFirstDiffering d events seals place)
StopsReplaying d events seals here (Journal error) = ⊥
StopsReplaying d events seals here OtherDesign = ⊥
StopsReplaying d events seals here Disk = ⊥
