-- Rule 1: each number that names a table, a column, a variable, a type or a point is in range; there is a point in each type
-- and a path in each step; clauses have neither the atom One nor anything under which an atom counts.
use Rattle.std.specs.Prelude.{ℕ, ◌+◌, Bool, true, false, not, ◌&&◌, ◌==◌, nat_le, nat_lt, List, length, Option, Some, None, slice_get, ℤ}
use Rattle.std.specs.List.{list_all}
use Rattle.acc_base.specs.declared.forms.Lin.{Lin}
use Rattle.acc_base.specs.declared.forms.LinRel.{LinRel}
use Rattle.acc_base.specs.declared.forms.Atom.{Atom}
use Rattle.acc_base.specs.declared.forms.Atom.TheVariants as atom
use Rattle.acc_base.specs.declared.forms.Unknown.{Unknown}
use Rattle.acc_base.specs.declared.forms.Rel.{Rel}
use Rattle.acc_base.specs.declared.forms.Clause.{Clause}
use Rattle.acc_base.specs.declared.tables.Table.{Table}
use Rattle.acc_base.specs.declared.steps.Read.{Read}
use Rattle.acc_base.specs.declared.steps.Read.TheVariants as read
use Rattle.acc_base.specs.declared.steps.Action.{Action}
use Rattle.acc_base.specs.declared.steps.Action.TheVariants as action
use Rattle.acc_base.specs.declared.steps.Target.{Target}
use Rattle.acc_base.specs.declared.steps.Target.TheVariants as target
use Rattle.acc_base.specs.declared.steps.Path.{Path}
use Rattle.acc_base.specs.declared.steps.Step.{Step}
use Rattle.acc_base.specs.declared.designs.Point.{Point}
use Rattle.acc_base.specs.declared.designs.TxType.{TxType}
use Rattle.acc_base.specs.declared.designs.At.{At}
use Rattle.acc_base.specs.declared.designs.Entry.{Entry}
use Rattle.acc_base.specs.declared.designs.Hint.{Hint}
use Rattle.acc_base.specs.declared.designs.Design.{Design}

-- ---- values, of so many variables

-- a coefficient's variable
abbrev pub term_in : ℕ → ℕ × ℤ → Bool
term_in vars t = nat_lt t.0 vars

-- each of its variables
abbrev pub lin_in : ℕ → Lin → Bool
lin_in vars l = list_all (term_in vars) l.coeffs

-- a relation of linear values
abbrev pub lin_rel_in : ℕ → LinRel → Bool
lin_rel_in vars r = lin_in vars r.lin

-- ---- rows: the table is there, and so is the column

-- a row or a prefix: its table is there, and so is each variable of its key
abbrev pub row_in : List Table → ℕ → ℕ → List Lin → Bool
row_in tables vars t k = nat_lt t (length tables) && list_all (lin_in vars) k

-- the table has a column of this number
abbrev pub has_column : Option Table → ℕ → Bool
has_column None c = false
has_column (Some t) c = nat_lt c (length t.cols)

-- a row or a prefix, and a column of its table
abbrev pub cell_in : List Table → ℕ → ℕ → List Lin → ℕ → Bool
cell_in tables vars t k c = row_in tables vars t k && has_column (slice_get tables t) c

-- ---- clauses

-- an atom of a clause, which is never One
abbrev pub atom_in : List Table → ℕ → Atom → Bool
atom_in tables vars atom.One = false
atom_in tables vars (atom.Var x) = nat_lt x vars
atom_in tables vars (atom.Has t k) = row_in tables vars t k
atom_in tables vars (atom.Col t k c) = cell_in tables vars t k c
atom_in tables vars (atom.Count t p) = row_in tables vars t p
atom_in tables vars (atom.Sum t p c) = cell_in tables vars t p c

-- an atom and its coefficient
abbrev pub product_in : List Table → ℕ → Unknown × ℤ → Bool
product_in tables vars t = (length t.0.under == 0) && atom_in tables vars t.0.atom

-- a relation of forms
abbrev pub rel_in : List Table → ℕ → Rel → Bool
rel_in tables vars r = list_all (product_in tables vars) r.form.terms

-- the clause's own variables come behind the others
abbrev pub clause_in : List Table → ℕ → Clause → Bool
clause_in tables vars c =
    list_all (rel_in tables (vars + length c.vars)) c.guards && rel_in tables (vars + length c.vars) c.rel

-- ---- steps

-- what a read assigns and what it uses; `self` may be named here, and is refused as what is assigned by a rule of its own
abbrev pub read_in : List Table → ℕ → Read → Bool
read_in tables vars (read.Let x v) = nat_lt x vars && lin_in vars v
read_in tables vars (read.Col x t k c) = nat_lt x vars && cell_in tables vars t k c
read_in tables vars (read.Has x t k) = nat_lt x vars && row_in tables vars t k
read_in tables vars (read.Count x t p) = nat_lt x vars && row_in tables vars t p
read_in tables vars (read.Sum x t p c) = nat_lt x vars && cell_in tables vars t p c
read_in tables vars (read.Least x t p) = nat_lt x vars && row_in tables vars t p
read_in tables vars (read.Greatest x t p) = nat_lt x vars && row_in tables vars t p
read_in tables vars (read.Take x) = nat_lt x vars
read_in tables vars (read.Mul x y z) = nat_lt x vars && nat_lt y vars && nat_lt z vars
read_in tables vars (read.Div x y c) = nat_lt x vars && nat_lt y vars

-- the row, the column and the values of an action
abbrev pub action_in : List Table → ℕ → Action → Bool
action_in tables vars (action.Put t k vs) = row_in tables vars t k && list_all (lin_in vars) vs
action_in tables vars (action.Del t k) = row_in tables vars t k
action_in tables vars (action.Set t k c v) = cell_in tables vars t k c && lin_in vars v
action_in tables vars (action.Add t k c v) = cell_in tables vars t k c && lin_in vars v

-- one of so many points
abbrev pub target_in : ℕ → Target → Bool
target_in points (target.Point p) = nat_lt p points
target_in points target.Commit = true
target_in points target.Undone = true
target_in points (target.Refuse n) = true

-- the guard, the actions and the target of a path
abbrev pub path_in : List Table → ℕ → ℕ → Path → Bool
path_in tables vars points p =
    list_all (lin_rel_in vars) p.guard && list_all (action_in tables vars) p.actions && target_in points p.target

-- a step has a path
abbrev pub step_in : List Table → ℕ → ℕ → Step → Bool
step_in tables vars points s =
    not (length s.paths == 0) && list_all (read_in tables vars) s.reads && list_all (path_in tables vars points) s.paths

-- ---- types: their variables are the locals, and then `self`

-- what holds at a point, its variant, and its steps
abbrev pub point_in : List Table → ℕ → ℕ → Point → Bool
point_in tables vars points p =
    list_all (clause_in tables vars) p.clauses && lin_in vars p.variant && step_in tables vars points p.next
    && step_in tables vars points p.undo

-- at most as many parameters as locals, and a point
abbrev pub head_in : TxType → Bool
head_in t =
    nat_le t.params (length t.locals) && not (length t.points == 0) && list_all (λ x. nat_lt x (length t.locals)) t.returns

-- what a type ensures and repairs
abbrev pub clauses_in : List Table → TxType → Bool
clauses_in tables t =
    list_all (clause_in tables (length t.locals + 1)) t.posts && list_all (clause_in tables (length t.locals + 1)) t.repairs

-- a type, with its clauses and points
abbrev pub type_in : List Table → TxType → Bool
type_in tables t =
    head_in t && clauses_in tables t && list_all (point_in tables (length t.locals + 1) (length t.points)) t.points

-- ---- entries and hints: they name points and locals

-- the type has a point of this number
abbrev pub has_point : Option TxType → ℕ → Bool
has_point None p = false
has_point (Some t) p = nat_lt p (length t.points)

-- a point of a type
abbrev pub at_in : List TxType → At → Bool
at_in types a = has_point (slice_get types a.ty) a.point

-- how many locals a type has, and none where it is not there
abbrev pub locals_of : Option TxType → ℕ
locals_of None = 0
locals_of (Some t) = length t.locals

-- a local of the held type and one of the stepping type
abbrev pub pair_in : ℕ → ℕ → ℕ × ℕ → Bool
pair_in held step p = nat_lt p.0 held && nat_lt p.1 step

-- the two points of an entry, and its pairs
abbrev pub entry_in : List TxType → Entry → Bool
entry_in types e =
    at_in types e.held && at_in types e.step
    && list_all (pair_in (locals_of (slice_get types e.held.ty)) (locals_of (slice_get types e.step.ty))) e.pairs

-- the point of a hint, and the locals of its value
abbrev pub hint_in : List TxType → Hint → Bool
hint_in types h = at_in types h.at && lin_in (locals_of (slice_get types h.at.ty)) h.lin

-- ---- the whole: clauses that hold always have their own variables alone

-- everything in a design
abbrev pub design_in : Design → Bool
design_in d =
    list_all (clause_in d.tables 0) d.always && list_all (type_in d.tables) d.types && list_all (entry_in d.types) d.entries
    && list_all (hint_in d.types) d.hints
