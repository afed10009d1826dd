-- The values that the search for an obligation's proof may use.
use Rattle.std.specs.Prelude.{ℕ, ◌+◌, Bool, true, false, ◌&&◌, nat_lt, if◌then◌else◌, List, [], map, filter, Option, Some, None, slice_get}
use Rattle.acc_base.specs.declared.forms.Lin.{Lin}
use Rattle.acc_base.specs.declared.steps.Read.{Read}
use Rattle.acc_base.specs.declared.steps.Step.{Step}
use Rattle.acc_base.specs.declared.designs.At.{At}
use Rattle.acc_base.specs.declared.designs.Side.{Side}
use Rattle.acc_base.specs.declared.designs.Hint.{Hint}
use Rattle.acc_base.specs.declared.designs.Design.{Design}
use Rattle.acc_base.specs.declared.sequents.Origin.{Origin}
use Rattle.acc_base.specs.declared.sequents.Sequent.{Sequent}
use Rattle.acc_base.specs.declared.sequents.Rule.{Rule}
use Rattle.acc_base.specs.declared.sequents.Rule.TheVariants.{Begins, Promises, Always, Spares, There, Ranges, Variants, Clears, Empty}
use Rattle.acc_base.specs.PointEquality.{at_eq, side_eq}
use Rattle.acc_base.specs.Effects.{step_of}
use Rattle.acc_base.specs.Items.{numbers_from}
use Rattle.acc_formed.specs.Ranges.{locals_of}
use Rattle.acc_oblig.specs.declared.naming.Naming.{Naming}
use Rattle.acc_oblig.specs.Naming.{named_lin}
use Rattle.acc_oblig.specs.Settings.{now_after}

-- the obligations of a transaction that begins, and of one that rests at a point, the first two clauses on variants, have no variable of
-- a read
abbrev pub are_without_reads : Rule → ℕ → Bool
are_without_reads Begins clause = true
are_without_reads Promises clause = false
are_without_reads Always clause = false
are_without_reads Spares clause = false
are_without_reads There clause = false
are_without_reads Ranges clause = false
are_without_reads Variants clause = nat_lt clause 3
are_without_reads Clears clause = false
are_without_reads Empty clause = false

abbrev pub has_no_reads : Origin → Bool
has_no_reads o = are_without_reads o.rule o.clause

abbrev pub reads_of : Option Step → List Read
reads_of None = []
reads_of (Some step) = step.reads

-- the reads whose variables an obligation has: those of its step, if it has any
abbrev pub reads_at : Design → Origin → At → List Read
reads_at d o at = if has_no_reads o then [] else reads_of (step_of d at.ty at.point o.side)

-- the variables of so many locals behind reads: each local has that of its last read, or else its own
abbrev pub names_after : ℕ → List Read → List ℕ
names_after locals reads = now_after (numbers_from 0 locals) (locals + 1) reads

-- what the locals are called in an obligation at a point
abbrev pub hint_naming : Design → Sequent → At → Naming
hint_naming d q at = record { names = names_after (locals_of (slice_get d.types at.ty)) (reads_at d q.origin at); past = q.vars }

abbrev pub is_hint_at : At → Side → Hint → Bool
is_hint_at at side h = at_eq h.at at && side_eq h.side side

-- the hints of a point and side, in the design's order, by these names
abbrev pub hints_at : Naming → At → Side → List Hint → List Lin
hints_at n at side hs = map (λ h. named_lin n h.lin) (filter (is_hint_at at side) hs)

abbrev pub hints_of_some : Design → Sequent → Option At → List Lin
hints_of_some d q None = []
hints_of_some d q (Some at) = hints_at (hint_naming d q at) at q.origin.side d.hints

-- the hints of an obligation: those of its point and side, and none where it has no point
abbrev pub hints_of : Design → Sequent → List Lin
hints_of d q = hints_of_some d q q.origin.at
