-- What holds of each item of a list, and the last obligations of a walk.
use Rattle.std.proofs.Common.{◌≡◌, ℕ, ◌-◌, ◌<◌, List, ◌++◌, map, length, get_or, ap, sym, subst, ◌∙◌, arith}
use Rattle.std.specs.Prelude.{All, Result, Ok, Err}
use Rattle.acc_base.specs.declared.sequents.Sequent.{Sequent}
use Rattle.acc_base.specs.declared.designs.Point.{Point}
use Rattle.acc_base.specs.declared.designs.TxType.{TxType}
use Rattle.acc_base.specs.declared.designs.Design.{Design}
use Rattle.acc_oblig_assumptions.specs.Drafts.{Draft, each_number}
use Rattle.acc_oblig_assumptions.specs.PointRules.{each_point}
use Rattle.acc_oblig_goals.specs.declared.errors.ObligError.{ObligError}
use Rattle.acc_oblig_goals.specs.declared.errors.ObligError.TheVariants.{Wide, Memory}
use Rattle.acc_oblig_goals.specs.Causes.{Adds}
use Rattle.acc_oblig_assumptions.specs.PointPlace.{PointPlace}
use Rattle.acc_oblig_assumptions.specs.SeenPlaces.{point_place}
use Rattle.acc_oblig_assumptions.specs.DesignPlaces.{joined, at_point_place, point_places}
use Rattle.acc_oblig_assumptions.proofs.EachPath.{each_point_is}
use Rattle.acc_oblig_clauses.proofs.Going.{Going}

-- what holds of each item of a list holds of the one that a loop over it is at
pub all_at :
    {T : Type 0} (P : T → Type 0) (xs ys : List T) → All P ys → xs ≡ ys → (i : ℕ) → i < length xs → (x : T) → x ≡ get_or xs i x → P x
all_at {T} P xs ys h e i l x f =
    let within : i < length ys = subst (λ (zs : List T). i < length zs) e l in
    let same : x ≡ get_or ys i x = f ∙ ap (λ (zs : List T). get_or zs i x) e in
    subst P (sym same) (h i x within)

-- what is left is added by the last call
pub going_then :
    (r : Result (Unit {0}) ObligError) (old now new : List Sequent) (rest all : List Draft) → Going old now rest all → Adds r now new rest
    → Adds r old new all
going_then (Ok x) old now new rest all g a = (a.0 ∙ g.out, sym g.wide ∙ a.1)
going_then (Err (Wide o)) old now new rest all g a = sym g.wide ∙ a
going_then (Err Memory) old now new rest all g a = tt

-- all numbers are left before the first
pub number_all : (make : ℕ → List Draft) (n : ℕ) → each_number 0 n make ≡ each_number 0 (n - 0) make
number_all make n = let e : n ≡ n - 0 = omega arith in ap (λ k. each_number 0 k make) e

-- what is added point by point along the list of points is what is made of each
pub points_added :
    (r : Result (Unit {0}) ObligError) (old new : List Sequent) (d : Design) (make : ℕ → TxType → ℕ → Point → List Draft)
    (ps : List PointPlace) → map point_place ps ≡ point_places d → Adds r old new (joined (at_point_place make) (map point_place ps)) →
    Adds r old new (each_point d make)
points_added r old new d make ps e a = subst (Adds r old new) (ap (joined (at_point_place make)) e ∙ each_point_is d make) a

pub both_points_added :
    (r : Result (Unit {0}) ObligError) (old new : List Sequent) (d : Design) (first last : ℕ → TxType → ℕ → Point → List Draft)
    (ps : List PointPlace) → map point_place ps ≡ point_places d
    → Adds r old new (joined (at_point_place first) (map point_place ps) ++ joined (at_point_place last) (map point_place ps))
    → Adds r old new (each_point d first ++ each_point d last)
both_points_added r old new d first last ps e a =
    let one = ap (joined (at_point_place first)) e ∙ each_point_is d first in
    let other = ap (joined (at_point_place last)) e ∙ each_point_is d last in
    subst (Adds r old new) (λ i. one i ++ other i) a
