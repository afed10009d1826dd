-- The pairs that an entry may have: two locals of one name that no undo step assigns.
use Rattle.std.specs.Prelude.{ℕ, ◌&&◌, if◌then◌else◌, List, [], ◌∷◌}
use Rattle.std.specs.Str.{bytes_eq}
use Rattle.acc_base.specs.declared.designs.TxType.{TxType}
use Rattle.acc_base.specs.declared.designs.Design.{Design}
use Rattle.acc_formed.specs.Entries.{pair_stays}
use Rattle.acc_oblig.specs.Drafts.{each, of_some}
use Rattle.acc_oblig_places.specs.DesignPlaces.{PointPlace}
use Rattle.acc_advise.specs.declared.advice.Question.{Question}
use Rattle.acc_advise.specs.TriedDesigns.{keyed, point_place_at}

-- a held local and one of the step, where they have one name and may stand in a pair
abbrev pub pair_of : List TxType → Question → ℕ → List ℕ → ℕ → List ℕ → List (ℕ × ℕ)
pair_of types q i name j other =
    if bytes_eq name other && pair_stays types (keyed q []) (i, j) then (i, j) ∷ [] else []

-- in the order of the held locals
abbrev pub pairs_in : List TxType → Question → List (List ℕ) → List (List ℕ) → List (ℕ × ℕ)
pairs_in types q held step = each (λ i name. each (pair_of types q i name) step) held

abbrev pub candidates : Design → Question → List (ℕ × ℕ)
candidates d q =
    of_some (λ (h : PointPlace). of_some (λ (s : PointPlace). pairs_in d.types q h.x.locals s.x.locals) (point_place_at d q.step))
    (point_place_at d q.held)
