-- Rows, keys and columns that keep the shapes of tables.
-- The law of weakest preconditions asks for them, and rows that fit have them.
use Rattle.std.specs.Prelude.{ℕ, ◌<◌, ◌≤◌, ◌≡◌, ⊤, List, length, All, Option, Some, None, slice_get}
use Rattle.acc_base.specs.declared.tables.Table.{Table}
use Rattle.acc_base.specs.declared.tables.Row.{Row}
use Rattle.acc_base.specs.declared.forms.Atom.{Atom}
use Rattle.acc_base.specs.declared.forms.Atom.TheVariants.{One, Var, Has, Col, Count, Sum}
use Rattle.acc_base.specs.declared.forms.Form.{Form}
use Rattle.acc_base.specs.declared.steps.Action.{Action}
use Rattle.acc_base.specs.declared.steps.Action.TheVariants as action

-- a key has as many parts as its table says, which there is
abbrev pub IsFullKey : Option Table → ℕ → Type 0
IsFullKey None n = ⊥
IsFullKey (Some t) n = n ≡ t.width

-- a prefix has at least one part, and at most as many as a key
abbrev pub IsPrefix : Option Table → ℕ → Type 0
IsPrefix None n = ⊥
IsPrefix (Some t) n = (1 ≤ n) × (n ≤ t.width)

abbrev pub IsColumn : Option Table → ℕ → Type 0
IsColumn None c = ⊥
IsColumn (Some t) c = c < length t.cols

-- a row has so many columns
abbrev pub AreColumns : Option Table → ℕ → Type 0
AreColumns None n = ⊥
AreColumns (Some t) n = n ≡ length t.cols

abbrev pub AtomFits : List Table → Atom → Type 0
AtomFits tables One = ⊤
AtomFits tables (Var x) = ⊤
AtomFits tables (Has t k) = IsFullKey (slice_get tables t) (length k)
AtomFits tables (Col t k c) = IsFullKey (slice_get tables t) (length k) × IsColumn (slice_get tables t) c
AtomFits tables (Count t p) = IsPrefix (slice_get tables t) (length p)
AtomFits tables (Sum t p c) = IsPrefix (slice_get tables t) (length p) × IsColumn (slice_get tables t) c

abbrev pub FormFits : List Table → Form → Type 0
FormFits tables f = All (λ t. AtomFits tables t.0.atom) f.terms

-- a `put` has one value a column
abbrev pub ActionFits : List Table → Action → Type 0
ActionFits tables (action.Put t k vs) = IsFullKey (slice_get tables t) (length k) × AreColumns (slice_get tables t) (length vs)
ActionFits tables (action.Del t k) = IsFullKey (slice_get tables t) (length k)
ActionFits tables (action.Set t k c v) = IsFullKey (slice_get tables t) (length k) × IsColumn (slice_get tables t) c
ActionFits tables (action.Add t k c v) = IsFullKey (slice_get tables t) (length k) × IsColumn (slice_get tables t) c

abbrev pub RowFits : List Table → Row → Type 0
RowFits tables r = IsFullKey (slice_get tables r.table) (length r.key.parts) × AreColumns (slice_get tables r.table) (length r.cols)
