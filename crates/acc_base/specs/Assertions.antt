-- Which assertions stand for a transaction, and for all times.
use Rattle.std.specs.Prelude.{ℕ, List, [], All, Option, Some, None, ℤ}
use Rattle.acc_base.specs.declared.tables.Row.{Row}
use Rattle.acc_base.specs.declared.forms.Clause.{Clause}
use Rattle.acc_base.specs.declared.designs.Design.{Design}
use Rattle.acc_base.specs.declared.designs.Point.{Point}
use Rattle.acc_base.specs.declared.machines.Frame.{Frame}
use Rattle.acc_base.specs.Linear.{variables}
use Rattle.acc_base.specs.Effects.{point_of}
use Rattle.acc_base.specs.Truth.{ClauseTrue}

-- all clauses are true of the rows, with a transaction's locals and number
abbrev pub AllTrue : List Clause → List Row → ℕ → List ℤ → Type 0
AllTrue clauses db t locals = All (ClauseTrue db (variables t locals)) clauses

-- the assertion of a point: its clauses
abbrev pub clauses_of : Option Point → List Clause
clauses_of None = []
clauses_of (Some p) = p.clauses

-- the assertion of a frame's point is true of the rows
abbrev pub Holds : Design → List Row → Frame → Type 0
Holds d db f = AllTrue (clauses_of (point_of d f.ty f.point)) db f.t f.locals

-- what a design asserts for all times is true of the rows
abbrev pub Always : Design → List Row → Type 0
Always d db = All (ClauseTrue db []) d.always
