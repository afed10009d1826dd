-- What an action adds to the value of an atom of its table, where the action's key is the atom's key or begins with its prefix.
use Rattle.std.specs.Prelude.{ℕ, ◌==◌, if◌then◌else◌, List, [], ◌∷◌, ◌++◌, Option, Some, None, slice_get, pos, negsuc}
use Rattle.acc_base.specs.declared.forms.Lin.{Lin}
use Rattle.acc_base.specs.declared.forms.Atom.{Atom}
use Rattle.acc_base.specs.declared.forms.Atom.TheVariants.{One, Var, Has, Col, Count, Sum}
use Rattle.acc_base.specs.declared.steps.Action.{Action}
use Rattle.acc_base.specs.declared.steps.Action.TheVariants as action
use Rattle.acc_base.specs.Actions.{acted_table}
use Rattle.acc_instanced.specs.Summands.{Part, lin_parts}

-- the key of an action
abbrev pub key_of : Action → List Lin
key_of (action.Put t k vs) = k
key_of (action.Del t k) = k
key_of (action.Set t k c v) = k
key_of (action.Add t k c v) = k

-- a value that isn't given is 0
abbrev pub value_parts : Option Lin → List Part
value_parts None = []
value_parts (Some v) = lin_parts v

abbrev pub minus : Atom → List Part
minus atom = (atom, negsuc 0) ∷ []

-- what is added to whether a row is there, and to a count of rows: `old` tells whether the row with the action's key was there
abbrev pub presence_change : Action → Atom → List Part
presence_change (action.Put t k vs) old = (One, pos 1) ∷ minus old
presence_change (action.Del t k) old = minus old
presence_change (action.Set t k c v) old = []
presence_change (action.Add t k c v) old = []

-- what is added to column c, and to a sum of that column: `old` is the column's value before
abbrev pub column_change : Action → ℕ → Atom → List Part
column_change (action.Put t k vs) c old = value_parts (slice_get vs c) ++ minus old
column_change (action.Del t k) c old = minus old
column_change (action.Set t k d v) c old = if d == c then lin_parts v ++ minus old else []
column_change (action.Add t k d v) c old = if d == c then lin_parts v else []

-- the same, where the table is the action's
abbrev pub presence_of : Action → ℕ → List Lin → List Part
presence_of a t key = if acted_table a == t then presence_change a (Has t key) else []

abbrev pub column_of : Action → ℕ → List Lin → ℕ → List Part
column_of a t key c = if acted_table a == t then column_change a c (Col t key c) else []

-- what is added to an atom: a count and a sum gain what the row with the action's key gains
abbrev pub change : Action → Atom → List Part
change a One = []
change a (Var x) = []
change a (Has t q) = presence_of a t q
change a (Col t q c) = column_of a t q c
change a (Count t p) = presence_of a t (key_of a)
change a (Sum t p c) = column_of a t (key_of a) c
