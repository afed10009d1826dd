-- What the definitions of the commands say by themselves: of a disk that tells its bytes they say one thing, where none of its calls fails.
use Rattle.std.specs.Prelude.{◌≡◌, ℕ, List, Option, Some}
use Rattle.acc_base.specs.Machine.{World}
use Rattle.acc_base.specs.declared.designs.Design.{Design}
use Rattle.acc_io.specs.Causes.{Rose}
use Rattle.acc_journalled.specs.Making.{MakesJournal}
use Rattle.acc_journalled.specs.Recovering.{RecoversJournal}
use Rattle.acc_journalled.specs.Tellings.{Telling}

-- of making a journal; the counts of faults are those before and after each of two calls
abbrev pub MakingSaysOne : Type 0
MakingSaysOne = (d : Design) (file : List ℕ) (one other : Option (List ℕ)) (p q r s : ℕ) (a b : Telling) → ¬ Rose p q → ¬ Rose r s
    → MakesJournal d (Some file) one (Rose p q) a → MakesJournal d (Some file) other (Rose r s) b → a ≡ b

-- of recovering one, whatever is said of a recovered state
abbrev pub RecoveringSaysOne : Type 0
RecoveringSaysOne = (text : World → ℕ → List ℕ) (d : Design) (file : List ℕ) (one other : Option (List ℕ)) (p q r s : ℕ) (a b : Telling)
    → ¬ Rose p q → ¬ Rose r s
    → RecoversJournal text d (Some file) one (Rose p q) a → RecoversJournal text d (Some file) other (Rose r s) b → a ≡ b
