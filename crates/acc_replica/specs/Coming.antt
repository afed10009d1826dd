-- Items of a journal that come one after the other.
use Rattle.std.specs.Prelude.{◌≡◌, List, [], ◌∷◌}
use Rattle.acc_base.specs.declared.designs.Design.{Design}
use Rattle.acc_base.specs.Machine.{World}
use Rattle.acc_base.specs.Lawful.{IsLawful}
use Rattle.acc_wal.specs.declared.items.Item.{Item}
use Rattle.acc_wal.specs.declared.items.Item.TheVariants.{Event, State}
use Rattle.acc_recover.specs.Seals.{IsTextOf}

-- Each event is lawful, and each state is the text of the rows where it stands, with nothing unfinished there. They lead from the one state
-- of the machine to the other.
abbrev pub Come : Design → World → List Item → World → Type 0
Come d w [] after = w ≡ after
Come d w (Event event ∷ items) after = (next : World) × IsLawful d w event next × Come d next items after
Come d w (State text ∷ items) after = IsTextOf w text × Come d w items after
