-- The paths of a design as a list.
use Rattle.std.specs.Prelude.{ℕ, ◌++◌, List, [], ◌∷◌}
use Rattle.acc_base.specs.declared.steps.Path.{Path}
use Rattle.acc_base.specs.declared.steps.Step.{Step}
use Rattle.acc_base.specs.declared.designs.At.{At}
use Rattle.acc_base.specs.declared.designs.Point.{Point}
use Rattle.acc_base.specs.declared.designs.TxType.{TxType}
use Rattle.acc_base.specs.declared.designs.Design.{Design}
use Rattle.acc_base.specs.declared.designs.Side.TheVariants.{Next, Undo}
use Rattle.acc_base.specs.Effects.{step_at}
use Rattle.acc_oblig.specs.Drafts.{Place, step_paths, each_path}
use Rattle.acc_oblig.specs.PointRules.{each_point}

-- a point, with where it stands and its type
pub record PointPlace : Type 0 where
  pub at : At
  pub x : TxType
  pub p : Point

-- a path, with where it stands, and its type, point and step
pub record PathPlace : Type 0 where
  pub w : Place
  pub x : TxType
  pub p : Point
  pub step : Step
  pub path : Path

-- what is made of each item of a list, one behind the other
abbrev pub joined : {T U : Type 0} → (T → List U) → List T → List U
joined make [] = []
joined make (x ∷ xs) = make x ++ joined make xs

-- what is made of a path, where it stands
abbrev pub at_path_place : {U : Type 0} → (Place → TxType → Point → Step → Path → List U) → PathPlace → List U
at_path_place make q = make q.w q.x q.p q.step q.path

-- and of a point
abbrev pub at_point_place : {U : Type 0} → (ℕ → TxType → ℕ → Point → List U) → PointPlace → List U
at_point_place make q = make q.at.ty q.x q.at.point q.p

abbrev pub point_place_alone : ℕ → TxType → ℕ → Point → List PointPlace
point_place_alone ty x i p = record { at = record { ty = ty; point = i }; x = x; p = p } ∷ []

abbrev pub path_place_alone : Place → TxType → Point → Step → Path → List PathPlace
path_place_alone w x p step path = record { w = w; x = x; p = p; step = step; path = path } ∷ []

-- the points and the paths of a design, in order
abbrev pub point_places : Design → List PointPlace
point_places d = each_point d point_place_alone

abbrev pub path_places : Design → List PathPlace
path_places d = each_path d path_place_alone

-- the paths of a point
abbrev pub places_of_point : PointPlace → List PathPlace
places_of_point r =
    step_paths path_place_alone r.at Next r.x r.p (step_at Next r.p) ++ step_paths path_place_alone r.at Undo r.x r.p (step_at Undo r.p)
