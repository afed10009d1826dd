-- The obligations on the numbers of actions, from their place among a path's.
use Rattle.std.specs.Prelude.{ℕ, false, List, slice_get}
use Rattle.acc_base.specs.declared.steps.Path.{Path}
use Rattle.acc_base.specs.declared.steps.Step.{Step}
use Rattle.acc_base.specs.declared.designs.Side.TheVariants.{Undo}
use Rattle.acc_base.specs.declared.designs.Point.{Point}
use Rattle.acc_base.specs.declared.designs.TxType.{TxType}
use Rattle.acc_base.specs.declared.designs.Design.{Design}
use Rattle.acc_base.specs.declared.sequents.Origin.{Origin}
use Rattle.acc_oblig.specs.Naming.{named_lin}
use Rattle.acc_oblig.specs.Relations.{lin_form}
use Rattle.acc_oblig.specs.Settings.{Setting, after_naming, step_vars, step_hyps}
use Rattle.acc_oblig.specs.Drafts.{Draft, Place, of_some, step_paths, goal_drafts, path_rels, setting_of}
use Rattle.acc_oblig.specs.Ranges.{ActionNumber, within, action_range_in, numbers_of}
use Rattle.acc_oblig_clauses.specs.Causes.{at_case}
use Rattle.acc_oblig_places.specs.DesignPlaces.{PointPlace}

-- of a number, from the first one's place
abbrev pub action_range : Origin → Setting → ℕ → ActionNumber → List Draft
action_range origin s vars m =
    let value = lin_form (named_lin (after_naming s vars) m.value) in
    goal_drafts (at_case origin) vars (step_hyps s vars) (path_rels s vars) false 1 (within value m.most)

-- of the number with this place, if there is one
abbrev pub path_range : Design → ℕ → ℕ → Place → TxType → Point → Step → Path → List Draft
path_range d k place w x p step path =
    let s : Setting = setting_of d x p step w.path path in
    of_some (action_range_in k w s (step_vars s)) (slice_get (numbers_of s.actions s.actions) place)

-- of those of each undo path of a point
abbrev pub undo_ranges : Design → ℕ → ℕ → PointPlace → List Draft
undo_ranges d k place q = step_paths (path_range d k place) q.at Undo q.x q.p q.p.undo
