-- What is made of the paths of a design by number, or by clause, from the list of the paths.
use Rattle.std.proofs.Common.{◌≡◌, ℕ, ◌+◌, ◌-◌, ◌<◌, List, ◌++◌, map, length, drop, get_or, ap, sym, ◌∙◌}
use Rattle.acc_base.specs.declared.steps.Path.{Path}
use Rattle.acc_base.specs.declared.steps.Step.{Step}
use Rattle.acc_base.specs.declared.designs.Point.{Point}
use Rattle.acc_base.specs.declared.designs.TxType.{TxType}
use Rattle.acc_base.specs.declared.designs.Design.{Design}
use Rattle.acc_oblig.specs.Drafts.{Draft, Place, each_from, each_number, each_path}
use Rattle.acc_oblig_places.specs.declared.places.PathPlace.{PathPlace}
use Rattle.acc_oblig_places.specs.SeenPlaces.{path_place}
use Rattle.acc_oblig_places.specs.DesignPlaces.{joined, at_path_place, path_places}
use Rattle.acc_oblig_places.proofs.EachPath.{each_path_is}
use Rattle.acc_oblig_clauses.proofs.Going.{each_next, number_next}

module _ (d : Design) (ps : List PathPlace) (e : map path_place ps ≡ path_places d) where
  listed :
      (make : Place → TxType → Point → Step → Path → List Draft) → each_path d make ≡ joined (at_path_place make) (map path_place ps)
  listed make = sym (ap (joined (at_path_place make)) e ∙ each_path_is d make)

  pub paths_number_next :
      (make : ℕ → Place → TxType → Point → Step → Path → List Draft) (n i : ℕ) → i < n
      → each_number i (n - i) (λ k. each_path d (make k))
      ≡ joined (at_path_place (make i)) (map path_place ps) ++ each_number (i + 1) (n - (i + 1)) (λ k. each_path d (make k))
  paths_number_next make n i l =
      number_next (λ k. each_path d (make k)) n i l
      ∙ ap (λ z. z ++ each_number (i + 1) (n - (i + 1)) (λ k. each_path d (make k))) (listed (make i))

  pub paths_each_next :
      {T : Type 0} (make : ℕ → T → Place → TxType → Point → Step → Path → List Draft) (xs : List T) (i : ℕ) (x : T)
      → i < length xs → x ≡ get_or xs i x
      → each_from i (λ (k : ℕ) (y : T). each_path d (make k y)) (drop i xs)
      ≡ joined (at_path_place (make i x)) (map path_place ps) ++ each_from (i + 1) (λ (k : ℕ) (y : T). each_path d (make k y))
      (drop (i + 1) xs)
  paths_each_next {T} make xs i x l f =
      each_next (λ (k : ℕ) (y : T). each_path d (make k y)) xs i x l f
      ∙ ap (λ z. z ++ each_from (i + 1) (λ (k : ℕ) (y : T). each_path d (make k y)) (drop (i + 1) xs)) (listed (make i x))
