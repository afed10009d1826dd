-- The obligations that a path of a step spares a clause, as a walk over the paths makes them.
use Rattle.std.proofs.Common.{ℕ, List}
use Rattle.acc_base.specs.declared.forms.Clause.{Clause}
use Rattle.acc_base.specs.declared.steps.Path.{Path}
use Rattle.acc_base.specs.declared.steps.Step.{Step}
use Rattle.acc_base.specs.declared.designs.Side.{Side}
use Rattle.acc_base.specs.declared.designs.Design.{Design}
use Rattle.acc_oblig.specs.Drafts.{Draft}
use Rattle.acc_oblig.specs.Spares.{spare_at}
use Rattle.acc_oblig_places.specs.DesignPlaces.{PointPlace}

abbrev pub path_spares : Design → Side → PointPlace → PointPlace → Step → ℕ → Clause → ℕ → Path → List Draft
path_spares d side h s step k c j path =
    spare_at d h.at h.x h.p k c (record { at = s.at; side = side; path = j }) s.x s.p step path
