-- What an answer tells of obligations whose numbers are too large.
use Rattle.std.specs.Prelude.{◌≡◌, ℕ, Bool, IsTrue, IsFalse, if◌then◌else◌, List, [], ◌∷◌, ◌++◌, map, Option, Some, None, Result, Ok, Err}
use Rattle.acc_base.specs.declared.sequents.Origin.{Origin}
use Rattle.acc_base.specs.declared.sequents.Sequent.{Sequent}
use Rattle.acc_oblig.specs.Drafts.{Draft}
use Rattle.acc_oblig_goals.specs.declared.errors.ObligError.{ObligError}
use Rattle.acc_oblig_goals.specs.declared.errors.ObligError.TheVariants.{Wide, Memory}

abbrev pub sequents : List Draft → List Sequent
sequents ds = map (λ (x : Draft). x.sequent) ds

-- where the first obligation with a number that is too large comes from
abbrev pub first_wide : List Draft → Option Origin
first_wide [] = None
first_wide (x ∷ xs) = if x.wide then Some x.sequent.origin else first_wide xs

-- of a clause from one place: Ok where no number is too large, Wide with that place where one is, and want of memory says nothing
abbrev pub TellsClause : {T : Type 0} → Result T ObligError → Origin → Bool → Type 0
TellsClause (Ok x) origin wide = IsFalse wide
TellsClause (Err (Wide o)) origin wide = (o ≡ origin) × IsTrue wide
TellsClause (Err Memory) origin wide = Unit {0}

-- the same place, of the obligation with this case
abbrev pub at_case : Origin → ℕ → Origin
at_case o n = record o { case = n }

-- obligations are added, or where one of them has a number that is too large the first such is told
abbrev pub Adds : Result (Unit {0}) ObligError → List Sequent → List Sequent → List Draft → Type 0
Adds (Ok x) old new ds = (new ≡ old ++ sequents ds) × (first_wide ds ≡ None)
Adds (Err (Wide o)) old new ds = first_wide ds ≡ Some o
Adds (Err Memory) old new ds = Unit {0}
