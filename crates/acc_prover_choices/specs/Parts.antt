-- Listings, which may stop, what a call's answer tells of one, and items that are listed once.
use Rattle.std.specs.Prelude.{Bool, true, false, if◌then◌else◌, List, [], ◌∷◌, ◌++◌, length, nat_lt, Result, Ok, Err}
use Rattle.std.specs.List.{fold, list_any}
use Rattle.acc_base.specs.declared.bounds.TheConstants.{MOST_INSTANCES}
use Rattle.acc_base.specs.declared.sums.FormSum.{FormSum}
use Rattle.acc_base.specs.declared.sums.FormSum.TheVariants as form_sum
use Rattle.acc_base.specs.Computing.{Answers, Leaves}
use Rattle.acc_prover_choices.specs.declared.listing.InstError.{InstError}
use Rattle.acc_prover_choices.specs.declared.listing.InstError.TheVariants.{Crowded, Wide, Memory}

-- the same cause, of a sum of forms
abbrev pub cause : FormSum → InstError
cause form_sum.Wide = Wide
cause form_sum.Memory = Memory

-- a value, or why there are no lists. No definition gives Memory
abbrev pub Listing : Type 0 → Type 0
Listing A = Result A InstError

-- the causes that tell of the listing: want of memory tells nothing
abbrev pub tells : InstError → Bool
tells Crowded = true
tells Wide = true
tells Memory = false

abbrev pub AnswersListing : {A : Type 0} → Result A InstError → Listing A → Type 0
AnswersListing result listing = Answers tells result listing

abbrev pub LeavesListing : {A B : Type 0} → Result B InstError → A → Listing A → Type 0
LeavesListing result x listing = Leaves tells result x listing

-- one more item, unless it stands there
abbrev pub with_first : {X : Type 0} → (X → X → Bool) → List X → X → List X
with_first same xs x = if list_any (same x) xs then xs else xs ++ x ∷ []

-- further items, each unless it stands there
abbrev pub with_firsts : {X : Type 0} → (X → X → Bool) → List X → List X → List X
with_firsts same xs more = fold (with_first same) xs more

-- items, equal ones once, where they first stand
abbrev pub firsts : {X : Type 0} → (X → X → Bool) → List X → List X
firsts same xs = with_firsts same [] xs

-- a list, unless it is longer than the most instances
abbrev pub unless_crowded : {X : Type 0} → List X → Listing (List X)
unless_crowded xs = if nat_lt MOST_INSTANCES (length xs) then Err Crowded else Ok xs
