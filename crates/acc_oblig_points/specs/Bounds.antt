-- The obligations on variants, one by one.
use Rattle.std.specs.Prelude.{ℕ, Bool, List, ◌++◌, pos, negsuc, neg_ℤ}
use Rattle.acc_base.specs.declared.bounds.TheConstants.{LARGEST_VARIANT}
use Rattle.acc_base.specs.declared.forms.Lin.{Lin}
use Rattle.acc_base.specs.declared.forms.Form.{Form}
use Rattle.acc_base.specs.declared.designs.Point.{Point}
use Rattle.acc_base.specs.declared.designs.TxType.{TxType}
use Rattle.acc_base.specs.declared.designs.Design.{Design}
use Rattle.acc_base.specs.Sums.{form_sum, is_sum_wide}
use Rattle.acc_oblig.specs.Relations.{negated, plus_number}
use Rattle.acc_oblig.specs.Settings.{Setting, first_now, last_now, step_vars}
use Rattle.acc_oblig.specs.Drafts.{Draft, of_some, setting_of}
use Rattle.acc_oblig.specs.PointRules.{variant_form, rest_drafts, fall_drafts, point_at}
use Rattle.acc_oblig_places.specs.DesignPlaces.{PointPlace, PathPlace, joined, at_point_place}
use Rattle.acc_oblig_points.specs.declared.variants.Bound.{Bound}
use Rattle.acc_oblig_points.specs.declared.variants.Bound.TheVariants.{Lowest, Highest}

-- ---- a bound of a point's variant

abbrev pub bound_clause : Bound → ℕ
bound_clause Lowest = 1
bound_clause Highest = 2

abbrev pub bound_goal : Bound → Form → Form
bound_goal Lowest f = negated f
bound_goal Highest f = plus_number f (neg_ℤ (pos LARGEST_VARIANT))

abbrev pub bound_drafts : Design → Bound → ℕ → TxType → ℕ → Point → List Draft
bound_drafts d b ty x i p = rest_drafts (bound_clause b) d ty x i p (bound_goal b)

-- of all points the one and then the other
abbrev pub both_bounds : Design → List PointPlace → List Draft
both_bounds d qs = joined (at_point_place (bound_drafts d Lowest)) qs ++ joined (at_point_place (bound_drafts d Highest)) qs

-- ---- a path makes the variant fall

abbrev pub first_variant : Setting → Lin → Form
first_variant s before = variant_form s (first_now s) (step_vars s) before

abbrev pub last_variant : Setting → Lin → Form
last_variant s behind = variant_form s (last_now s) (step_vars s) behind

abbrev pub fall_form : Setting → Lin → Lin → Form
fall_form s before behind = plus_number (form_sum (last_variant s behind) (negsuc 0) (first_variant s before)) (pos 1)

abbrev pub is_fall_wide : Setting → Lin → Lin → Bool
is_fall_wide s before behind = is_sum_wide (last_variant s behind) (negsuc 0) (first_variant s before)

-- if it leads to a point
abbrev pub target_falls : Design → PathPlace → List Draft
target_falls d q =
    of_some (fall_drafts (setting_of d q.x q.p q.step q.w.path q.path) q.w q.p) (point_at q.x q.path.target)
