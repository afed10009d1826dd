-- The obligation that a path leaves no row of its transaction's in a table.
use Rattle.std.specs.Prelude.{ℕ, List, [], ◌∷◌, ◌++◌, length}
use Rattle.acc_base.specs.declared.designs.Design.{Design}
use Rattle.acc_base.specs.declared.sequents.Rule.TheVariants as rule
use Rattle.acc_oblig.specs.Settings.{Setting, last_now}
use Rattle.acc_oblig.specs.Drafts.{Draft, path_drafts, setting_of}
use Rattle.acc_oblig.specs.PointRules.{none_of}
use Rattle.acc_oblig_places.specs.DesignPlaces.{PathPlace}

-- of a table whose keys have so many components
abbrev pub path_clears : Design → ℕ → ℕ → PathPlace → List Draft
path_clears d t width q =
    let s : Setting = setting_of d q.x q.p q.step q.w.path q.path in
    path_drafts rule.Clears s t q.w (last_now s ++ length q.x.locals ∷ []) (none_of (length q.x.locals) t width)
