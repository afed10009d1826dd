-- Rules 5, 8, 9, 11, 12 and 13: where paths end, and what the reads of a step may do.
use Rattle.std.specs.Prelude.{ℕ, Bool, true, false, ◌&&◌, ◌==◌, nat_le, nat_lt, List, length, pos, int_le}
use Rattle.acc_base.specs.declared.bounds.TheConstants.{LARGEST_LIMIT, LARGEST_REFUSAL}
use Rattle.acc_base.specs.declared.steps.Read.{Read}
use Rattle.acc_base.specs.declared.steps.Read.TheVariants as read
use Rattle.acc_base.specs.declared.steps.Action.{Action}
use Rattle.acc_base.specs.declared.steps.Target.{Target}
use Rattle.acc_base.specs.declared.steps.Target.TheVariants as target
use Rattle.acc_base.specs.declared.designs.Side.{Side}
use Rattle.acc_base.specs.declared.designs.Side.TheVariants.{Next, Undo}
use Rattle.acc_base.specs.declared.designs.TxType.{TxType}
use Rattle.acc_base.specs.Reads.{assigned}

-- ---- rule 5: a type's limit is 1 to 65,536, a refusal's number 1 to 255, a divisor at least 1

-- a type's limit
abbrev pub is_limit : ℕ → Bool
is_limit n = nat_le 1 n && nat_le n LARGEST_LIMIT

-- the number of a refusal
abbrev pub refuses_by_number : Target → Bool
refuses_by_number (target.Point p) = true
refuses_by_number target.Commit = true
refuses_by_number target.Undone = true
refuses_by_number (target.Refuse n) = nat_le 1 n && nat_le n LARGEST_REFUSAL

-- the divisor of a read
abbrev pub divides : Read → Bool
divides (read.Let x v) = true
divides (read.Col x t k c) = true
divides (read.Has x t k) = true
divides (read.Count x t p) = true
divides (read.Sum x t p c) = true
divides (read.Least x t p) = true
divides (read.Greatest x t p) = true
divides (read.Take x) = true
divides (read.Mul x y z) = true
divides (read.Div x y c) = int_le (pos 1) c

-- ---- rule 8: a forward path doesn't end undone, and an undo path neither commits nor refuses

-- where a path of a side may lead
abbrev pub may_end : Side → Target → Bool
may_end side (target.Point p) = true
may_end Next target.Commit = true
may_end Undo target.Commit = false
may_end Next target.Undone = false
may_end Undo target.Undone = true
may_end Next (target.Refuse n) = true
may_end Undo (target.Refuse n) = false

-- ---- rule 9: a path that refuses has no actions

-- the actions of a path that leads there
abbrev pub refuses_plainly : List Action → Target → Bool
refuses_plainly actions (target.Point p) = true
refuses_plainly actions target.Commit = true
refuses_plainly actions target.Undone = true
refuses_plainly actions (target.Refuse n) = length actions == 0

-- ---- rule 11: a read assigns a local that is no parameter

-- what a read assigns
abbrev pub assigns_local : TxType → Read → Bool
assigns_local t r = nat_le t.params (assigned r) && nat_lt (assigned r) (length t.locals)

-- ---- rule 12: an undo step has no `take` and no `mul`

-- a read of a step of this side
abbrev pub may_read : Side → Read → Bool
may_read Next r = true
may_read Undo (read.Let x v) = true
may_read Undo (read.Col x t k c) = true
may_read Undo (read.Has x t k) = true
may_read Undo (read.Count x t p) = true
may_read Undo (read.Sum x t p c) = true
may_read Undo (read.Least x t p) = true
may_read Undo (read.Greatest x t p) = true
may_read Undo (read.Take x) = false
may_read Undo (read.Mul x y z) = false
may_read Undo (read.Div x y c) = true

-- ---- rule 13: the paths of a start point's undo end undone

-- a path ends undone
abbrev pub is_undone : Target → Bool
is_undone (target.Point p) = false
is_undone target.Commit = false
is_undone target.Undone = true
is_undone (target.Refuse n) = false
