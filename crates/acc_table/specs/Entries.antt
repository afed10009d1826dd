-- The tests by which an entry forbids a step, and makes two points clash.
use Rattle.std.specs.Prelude.{◌≡◌, ◌<◌, ℕ, Bool, ◌&&◌, ◌||◌, ◌==◌, List, Option, Some, MatchOption, ℤ}
use Rattle.std.specs.List.{list_all}
use Rattle.std.specs.Ordering.{int_eq}
use Rattle.acc_base.specs.declared.designs.At.{At}
use Rattle.acc_base.specs.declared.designs.Side.{Side}
use Rattle.acc_base.specs.declared.designs.Side.TheVariants.{Undo}
use Rattle.acc_base.specs.declared.designs.Entry.{Entry}
use Rattle.acc_base.specs.declared.designs.Design.{Design}
use Rattle.acc_base.specs.declared.designs.Point.{Point}
use Rattle.acc_base.specs.Linear.{var}
use Rattle.acc_base.specs.PointEquality.{at_eq, side_eq}
use Rattle.acc_base.specs.Effects.{point_of}
use Rattle.acc_table.specs.Closures.{is_set}

-- the locals of a pair are equal
abbrev pub pair_agrees : List ℤ → List ℤ → ℕ × ℕ → Bool
pair_agrees held locals p = int_eq (var held p.0) (var locals p.1)

abbrev pub pairs_agree : List ℤ → List ℤ → List (ℕ × ℕ) → Bool
pairs_agree held locals pairs = list_all (pair_agrees held locals) pairs

abbrev pub entry_forbids : At → List ℤ → At → Side → List ℤ → Entry → Bool
entry_forbids held held_locals step side locals e =
    at_eq e.held held && at_eq e.step step && side_eq e.side side && pairs_agree held_locals locals e.pairs

-- of an undo step of the one type, held at the other, whatever the points
abbrev pub entry_may_clash : ℕ → List ℤ → ℕ → List ℤ → Entry → Bool
entry_may_clash a a_locals b b_locals e =
    side_eq e.side Undo && (e.step.ty == a) && (e.held.ty == b) && pairs_agree b_locals a_locals e.pairs

abbrev pub either_may_clash : ℕ → List ℤ → ℕ → List ℤ → Entry → Bool
either_may_clash a a_locals b b_locals e = entry_may_clash a a_locals b b_locals e || entry_may_clash b b_locals a a_locals e

-- by the points that the one's undo steps reach, as steps, and the other's, as held
abbrev pub entry_clashes : ℕ → List Bool → List ℤ → ℕ → List Bool → List ℤ → Entry → Bool
entry_clashes a a_points a_locals b b_points b_locals e =
    entry_may_clash a a_locals b b_locals e && is_set a_points e.step.point && is_set b_points e.held.point

abbrev pub either_clashes : ℕ → List Bool → List ℤ → ℕ → List Bool → List ℤ → Entry → Bool
either_clashes a a_points a_locals b b_points b_locals e =
    entry_clashes a a_points a_locals b b_points b_locals e || entry_clashes b b_points b_locals a a_points a_locals e

-- there is such a point
pub record IsPointOf (d : Design) (ty p : ℕ) : Type 0 where
  pub point : Point
  pub is_point : point_of d ty p ≡ Some point

-- the lowest number of which P holds, none where there is none
abbrev pub TellsLowest : (ℕ → Type 0) → Option ℕ → Type 0
TellsLowest P result = MatchOption result ((n : ℕ) → ¬ P n) (λ n. P n × ((m : ℕ) → m < n → ¬ P m))
