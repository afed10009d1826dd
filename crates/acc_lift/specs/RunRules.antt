-- What the invariant of a design's states asks of its form: a part of what it is to be well-formed.
use Rattle.std.specs.Prelude.{◌≡◌, ◌≢◌, ℕ, ◌-◌, ◌<◌, ◌≤◌, ⊤, IsTrue, List, [], ◌∷◌, length, All, Some, slice_get, pos}
use Rattle.acc_base.specs.declared.bounds.TheConstants.{MOST_ACTIONS, LARGEST_LIMIT}
use Rattle.acc_base.specs.declared.forms.Lin.{Lin}
use Rattle.acc_base.specs.declared.steps.Action.{Action}
use Rattle.acc_base.specs.declared.steps.Action.TheVariants.{Put, Del, Set, Add}
use Rattle.acc_base.specs.declared.steps.Target.{Target}
use Rattle.acc_base.specs.declared.steps.Target.TheVariants.{Point as ToPoint, Commit, Undone, Refuse}
use Rattle.acc_base.specs.declared.steps.Path.{Path}
use Rattle.acc_base.specs.declared.steps.Step.{Step}
use Rattle.acc_base.specs.declared.designs.Design.{Design}
use Rattle.acc_base.specs.declared.designs.TxType.{TxType}
use Rattle.acc_base.specs.declared.designs.Entry.{Entry}
use Rattle.acc_base.specs.declared.designs.Side.{Side}
use Rattle.acc_base.specs.declared.designs.Side.TheVariants.{Undo}
use Rattle.acc_base.specs.Reads.{assigned}
use Rattle.acc_base.specs.Effects.{step_of}
use Rattle.acc_base.specs.Runnable.{CanEnd}
use Rattle.acc_base.specs.Shapes.{ActionFits}
use Rattle.acc_base.specs.PrivateRows.{is_own_table}

-- the last part of the key is the own number alone, where self is its variable
abbrev pub EndsInSelf : ℕ → List Lin → Type 0
EndsInSelf self k = slice_get k (length k - 1) ≡ Some (record { coeffs = (self, pos 1) ∷ []; constant = pos 0 })

-- a row that is put into a private table ends in the own number
abbrev pub PutsOwn : Design → ℕ → Action → Type 0
PutsOwn d self (Put t k vs) = IsTrue (is_own_table (slice_get d.tables t)) → EndsInSelf self k
PutsOwn d self (Del t k) = ⊤
PutsOwn d self (Set t k c v) = ⊤
PutsOwn d self (Add t k c v) = ⊤

-- a point that a path leads to is one of the type
abbrev pub IsTargetOf : TxType → Target → Type 0
IsTargetOf x (ToPoint p) = p < length x.points
IsTargetOf x Commit = ⊤
IsTargetOf x Undone = ⊤
IsTargetOf x (Refuse n) = ⊤

-- a path of a step on this side
pub record IsPathOf (d : Design) (x : TxType) (side : Side) (path : Path) : Type 0 where
  pub target : IsTargetOf x path.target
  pub ends : CanEnd side path.target
  pub few : length path.actions ≤ MOST_ACTIONS
  pub shapes : All (ActionFits d.tables) path.actions
  pub own : All (PutsOwn d (length x.locals)) path.actions

pub record IsTypeOf (x : TxType) : Type 0 where
  pub start : 0 < length x.points
  pub params : x.params ≤ length x.locals
  pub limit : x.limit ≤ LARGEST_LIMIT

-- no undo step of the type assigns the local
abbrev pub IsUnassigned : Design → ℕ → ℕ → Type 0
IsUnassigned d ty x = (p : ℕ) (step : Step) → step_of d ty p Undo ≡ Some step → All (λ r. assigned r ≢ x) step.reads

-- no entry holds a start, or forbids a start's undo; and no undo step assigns the locals of its pairs
pub record IsEntryOf (d : Design) (e : Entry) : Type 0 where
  pub held : e.held.point ≢ 0
  pub step : e.side ≡ Undo → e.step.point ≢ 0
  pub held_kept : All (λ pair. IsUnassigned d e.held.ty pair.0) e.pairs
  pub step_kept : All (λ pair. IsUnassigned d e.step.ty pair.1) e.pairs

-- all of it, part by part
pub record HasRunRules (d : Design) : Type 0 where
  pub types : (ty : ℕ) (x : TxType) → slice_get d.types ty ≡ Some x → IsTypeOf x
  pub paths :
      (ty p : ℕ) (side : Side) (x : TxType) (step : Step) (i : ℕ) (path : Path) → slice_get d.types ty ≡ Some x
      → step_of d ty p side ≡ Some step → slice_get step.paths i ≡ Some path → IsPathOf d x side path
  -- a start's undo leads nowhere
  pub starts :
      (ty : ℕ) (step : Step) → step_of d ty 0 Undo ≡ Some step → (i : ℕ) (path : Path) → slice_get step.paths i ≡ Some path
      → path.target ≡ Undone
  pub entries : (n : ℕ) (e : Entry) → slice_get d.entries n ≡ Some e → IsEntryOf d e
