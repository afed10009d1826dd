-- What is made of the points and paths of a design is made of their lists.
use Rattle.std.proofs.Common.{◌≡◌, ℕ, ◌+◌, List, [], ◌∷◌, ◌++◌, refl, ap, sym, ◌∙◌, append_assoc}
use Rattle.acc_base.specs.declared.steps.Path.{Path}
use Rattle.acc_base.specs.declared.steps.Step.{Step}
use Rattle.acc_base.specs.declared.designs.At.{At}
use Rattle.acc_base.specs.declared.designs.Side.{Side}
use Rattle.acc_base.specs.declared.designs.Side.TheVariants.{Next, Undo}
use Rattle.acc_base.specs.declared.designs.Point.{Point}
use Rattle.acc_base.specs.declared.designs.TxType.{TxType}
use Rattle.acc_base.specs.declared.designs.Design.{Design}
use Rattle.acc_base.specs.Effects.{step_at}
use Rattle.acc_oblig.specs.Drafts.{Place, each_from, each, step_paths, each_path}
use Rattle.acc_oblig.specs.PointRules.{each_point}
use Rattle.acc_oblig_places.specs.DesignPlaces.{PointPlace, joined, at_path_place, at_point_place, point_place_alone, path_place_alone}
use Rattle.acc_oblig_places.specs.DesignPlaces.{point_places, path_places, places_of_point}

append_nil : {U : Type 0} (xs : List U) → xs ++ [] ≡ xs
append_nil [] = refl
append_nil (x ∷ xs) = ap (λ z. x ∷ z) (append_nil xs)

module _ {S U : Type 0} (make : S → List U) where
  pub joined_both : (xs ys : List S) → joined make (xs ++ ys) ≡ joined make xs ++ joined make ys
  joined_both [] ys = refl
  joined_both (x ∷ xs) ys =
      ap (λ z. make x ++ z) (joined_both xs ys) ∙ sym (append_assoc (make x) (joined make xs) (joined make ys))

  pub joined_from :
      {T : Type 0} (list : ℕ → T → List S) (whole : ℕ → T → List U)
      → ((i : ℕ) (x : T) → joined make (list i x) ≡ whole i x) → (i : ℕ) (xs : List T)
      → joined make (each_from i list xs) ≡ each_from i whole xs
  joined_from list whole h i [] = refl
  joined_from list whole h i (x ∷ xs) =
      joined_both (list i x) (each_from (i + 1) list xs)
      ∙ (ap (λ z. z ++ joined make (each_from (i + 1) list xs)) (h i x) ∙ ap (λ z. whole i x ++ z) (joined_from list whole h (i + 1) xs))

-- ---- points

pub each_point_is :
    {U : Type 0} (d : Design) (make : ℕ → TxType → ℕ → Point → List U) → joined (at_point_place make) (point_places d) ≡ each_point d make
each_point_is d make =
    joined_from (at_point_place make) (λ ty x. each (λ i p. point_place_alone ty x i p) x.points)
    (λ ty x. each (λ i p. make ty x i p) x.points)
    (λ ty x. joined_from (at_point_place make) (λ i p. point_place_alone ty x i p) (λ i p. make ty x i p)
    (λ i p. append_nil (make ty x i p)) 0 x.points)
    0 d.types

-- ---- paths

step_is :
    {U : Type 0} (make : Place → TxType → Point → Step → Path → List U) (at : At) (side : Side) (x : TxType) (p : Point) (step : Step)
    → joined (at_path_place make) (step_paths path_place_alone at side x p step) ≡ step_paths make at side x p step
step_is make at side x p step =
    joined_from (at_path_place make) (λ j path. path_place_alone (record { at = at; side = side; path = j }) x p step path)
    (λ j path. make (record { at = at; side = side; path = j }) x p step path)
    (λ j path. append_nil (make (record { at = at; side = side; path = j }) x p step path)) 0 step.paths

point_is :
    {U : Type 0} (make : Place → TxType → Point → Step → Path → List U) (r : PointPlace)
    → joined (at_path_place make) (places_of_point r)
    ≡ step_paths make r.at Next r.x r.p (step_at Next r.p) ++ step_paths make r.at Undo r.x r.p (step_at Undo r.p)
point_is make r =
    let next = step_paths path_place_alone r.at Next r.x r.p (step_at Next r.p) in
    let undo = step_paths path_place_alone r.at Undo r.x r.p (step_at Undo r.p) in
    joined_both (at_path_place make) next undo
    ∙ (ap (λ z. z ++ joined (at_path_place make) undo) (step_is make r.at Next r.x r.p (step_at Next r.p))
    ∙ ap (λ z. step_paths make r.at Next r.x r.p (step_at Next r.p) ++ z) (step_is make r.at Undo r.x r.p (step_at Undo r.p)))

pub each_path_is :
    {U : Type 0} (d : Design) (make : Place → TxType → Point → Step → Path → List U) → joined (at_path_place make) (path_places d)
    ≡ each_path d make
each_path_is d make =
    joined_from (at_path_place make)
    (λ ty x. each (λ i p. places_of_point (record { at = record { ty = ty; point = i }; x = x; p = p })) x.points)
    (λ ty x. each (λ i p. step_paths make (record { ty = ty; point = i }) Next x p (step_at Next p)
    ++ step_paths make (record { ty = ty; point = i }) Undo x p (step_at Undo p)) x.points)
    (λ ty x. joined_from (at_path_place make) (λ i p. places_of_point (record { at = record { ty = ty; point = i }; x = x; p = p }))
    (λ i p. step_paths make (record { ty = ty; point = i }) Next x p (step_at Next p)
    ++ step_paths make (record { ty = ty; point = i }) Undo x p (step_at Undo p))
    (λ i p. point_is make (record { at = record { ty = ty; point = i }; x = x; p = p })) 0 x.points)
    0 d.types

-- the paths of all points are those of the design
pub all_path_places : (d : Design) → joined places_of_point (point_places d) ≡ path_places d
all_path_places d =
    joined_from places_of_point (λ ty x. each (λ i p. point_place_alone ty x i p) x.points)
    (λ ty x. each (λ i p. places_of_point (record { at = record { ty = ty; point = i }; x = x; p = p })) x.points)
    (λ ty x. joined_from places_of_point (λ i p. point_place_alone ty x i p)
    (λ i p. places_of_point (record { at = record { ty = ty; point = i }; x = x; p = p }))
    (λ i p. append_nil (places_of_point (record { at = record { ty = ty; point = i }; x = x; p = p }))) 0 x.points) 0 d.types
