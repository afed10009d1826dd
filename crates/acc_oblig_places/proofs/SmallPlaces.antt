-- The listed points and paths of such a design are small.
use Rattle.std.proofs.Common.{◌≡◌, ℕ, ◌<◌, ◌≤◌, List, [], ◌∷◌, map, length, get_or, sym, ap, subst, ◌∙◌}
use Rattle.std.specs.Prelude.{All}
use Rattle.std.specs.List.{AllByRecursion}
use Rattle.std.proofs.lemmas.List.Elements.{All-from_recursion, recursion_from_All}
use Rattle.acc_base.specs.declared.designs.TxType.{TxType}
use Rattle.acc_base.specs.declared.designs.Design.{Design}
use Rattle.acc_oblig_places.specs.declared.places.PointPlace.{PointPlace}
use Rattle.acc_oblig_places.specs.declared.places.PathPlace.{PathPlace}
use Rattle.acc_oblig_places.specs.ManyEntries.{IsFormedButEntries}
use Rattle.acc_oblig_places.specs.Rooms.{IsSmallPointPlace, IsSmallPathPlace}
use Rattle.acc_oblig_places.specs.SeenPlaces.{point_place, path_place}
use Rattle.acc_oblig_places.specs.DesignPlaces.{joined, places_of_point, point_places}
use Rattle.acc_oblig_places.proofs.Small.{all_joined, small_path_places, small_point_places}

module _ {S T : Type 0} (f : T → S) (P : S → Type 0) where
  all_back : (xs : List T) → AllByRecursion P (map f xs) → AllByRecursion (λ x. P (f x)) xs
  all_back [] h = tt
  all_back (x ∷ xs) h = (h.0, all_back xs h.1)

  all_over : (xs : List T) → AllByRecursion (λ x. P (f x)) xs → AllByRecursion P (map f xs)
  all_over [] h = tt
  all_over (x ∷ xs) h = (h.0, all_over xs h.1)

pub points_small :
    (d : Design) → IsFormedButEntries d → (ps : List PointPlace) → map point_place ps ≡ point_places d → All
    (λ (q : PointPlace). IsSmallPointPlace (point_place q)) ps
points_small d wf ps e =
    All-from_recursion (λ (q : PointPlace). IsSmallPointPlace (point_place q)) ps
    (all_back point_place IsSmallPointPlace ps (subst (AllByRecursion IsSmallPointPlace) (sym e) (small_point_places d wf)))

pub paths_small :
    (ps : List PointPlace) (qs : List PathPlace) → All (λ (q : PointPlace). IsSmallPointPlace (point_place q)) ps
    → map path_place qs ≡ joined places_of_point (map point_place ps) → All (λ (q : PathPlace). IsSmallPathPlace (path_place q)) qs
paths_small ps qs h e =
    let small = all_over point_place IsSmallPointPlace ps
    (recursion_from_All (λ (q : PointPlace). IsSmallPointPlace (point_place q)) ps h) in
    All-from_recursion (λ (q : PathPlace). IsSmallPathPlace (path_place q)) qs
    (all_back path_place IsSmallPathPlace qs
    (subst (AllByRecursion IsSmallPathPlace) (sym e)
    (all_joined IsSmallPathPlace IsSmallPointPlace places_of_point (map point_place ps) small_path_places small)))

pub few_points :
    (d : Design) → IsFormedButEntries d → (xs : List TxType) → xs ≡ d.types → (i : ℕ) → i < length xs → (x : TxType) → x ≡ get_or xs i x
    → length x.points ≤ 32
few_points d wf xs e i l x f =
    let within : i < length d.types = subst (λ (ys : List TxType). i < length ys) e l in
    let same : x ≡ get_or d.types i x = f ∙ ap (λ (ys : List TxType). get_or ys i x) e in
    let few = (wf.rest.types i x within).few_points in
    subst (λ (y : TxType). length y.points ≤ 32) (sym same) few
