-- The point that a word names, among places.
use Rattle.std.proofs.Common.{ℕ, List, map, Option}
use Rattle.std.specs.Prelude.{find, option_map}
use Rattle.std.specs.Str.{bytes_eq}
use Rattle.acc_base.specs.declared.designs.At.{At}
use Rattle.acc_base.specs.declared.designs.Design.{Design}
use Rattle.acc_base.specs.Lines.{at_text}
use Rattle.acc_oblig_places.specs.DesignPlaces.{PointPlace}
use Rattle.acc_oblig_places.specs.SeenPlaces.{point_place}
use Rattle.acc_oblig_places.specs.declared.places.PointPlace.{PointPlace as Seen}

-- the first of these places that has the name
abbrev pub found_in : Design → List ℕ → List Seen → Option At
found_in d word qs =
    option_map (λ (q : PointPlace). q.at) (find (λ (q : PointPlace). bytes_eq (at_text d q.at) word) (map point_place qs))
