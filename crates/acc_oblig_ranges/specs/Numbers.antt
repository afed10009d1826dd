-- The numbers of reads and of actions, one by one.
use Rattle.std.specs.Prelude.{◌≡◌, ℕ, ◌+◌, ◌/◌, ◌≤◌, ⊤, List, [], ◌∷◌, ◌++◌, length, map, count_by, Some, slice_get}
use Rattle.acc_base.specs.declared.bounds.TheConstants.{LARGEST_NUMBER, MOST_READS}
use Rattle.acc_base.specs.declared.forms.Lin.{Lin}
use Rattle.acc_base.specs.declared.steps.Read.{Read}
use Rattle.acc_base.specs.declared.steps.Action.{Action}
use Rattle.acc_base.specs.declared.steps.Action.TheVariants.{Put, Del, Set, Add}
use Rattle.acc_base.specs.Reads.{read_key}
use Rattle.acc_base.specs.Soundness.{adds_to}
use Rattle.acc_oblig.specs.declared.naming.Naming.{Naming}
use Rattle.acc_oblig.specs.Relations.{lin_form}
use Rattle.acc_oblig.specs.Ranges as definitions
use Rattle.acc_oblig.specs.Ranges.{key_number, value_number, in_range}
use Rattle.acc_oblig_ranges.specs.declared.found.Found.{Found}
use Rattle.acc_oblig_ranges.specs.declared.found.Found.TheVariants.{Number, Behind}
use Rattle.acc_oblig_ranges.specs.declared.read_numbers.ReadNumber.{ReadNumber}
use Rattle.acc_oblig_ranges.specs.declared.action_numbers.ActionNumber.{ActionNumber}

-- the number with this place, or so many places behind the last
abbrev pub StandsAt : {T U : Type 0} → (T → U) → List U → ℕ → Found T → Type 0
StandsAt see ns place (Number m) = slice_get ns place ≡ Some (see m)
StandsAt see ns place (Behind left) = place ≡ length ns + left

-- ---- reads

-- a number of reads as the definitions see it
abbrev pub seen_read : ReadNumber → definitions.ReadNumber
seen_read m = record { value = lin_form m.value; bounded = m.bounded; asked = m.asked }

-- before it no more reads are bounded than a step has
abbrev pub IsFewBounded : Found ReadNumber → Type 0
IsFewBounded (Number m) = m.bounded ≤ MOST_READS
IsFewBounded (Behind left) = ⊤

-- the numbers of one read: its key's, and then its value
abbrev pub one_read_numbers : Naming → ℕ → ℕ → Read → List definitions.ReadNumber
one_read_numbers n x i r = map (key_number n i) (read_key r) ++ value_number x i r ∷ []

-- ---- actions

-- a number of actions as the definitions see it
abbrev pub seen_action : ActionNumber → definitions.ActionNumber
seen_action m = record { value = m.value.now; most = m.most }

abbrev pub action_key : Action → List Lin
action_key (Put t k vs) = k
action_key (Del t k) = k
action_key (Set t k c v) = k
action_key (Add t k c v) = k

-- the numbers of an action behind its key's
abbrev pub operands : List Action → Action → List definitions.ActionNumber
operands all (Put t k vs) = map in_range vs
operands all (Del t k) = []
operands all (Set t k c v) = in_range v ∷ []
operands all (Add t k c v) = record { value = v; most = LARGEST_NUMBER / count_by (adds_to t c) all } ∷ []
