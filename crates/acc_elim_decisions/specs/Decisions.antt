-- What an elimination decides of relations between unknowns.
use Rattle.std.specs.Prelude.{Bool, false, ◌&&◌, ◌||◌, if◌then◌else◌, List, map, Result, Ok, Err, pos, negsuc, ◌*ℤ◌, int_lt}
use Rattle.std.specs.List.{list_any}
use Rattle.acc_base.specs.declared.forms.Rel.{Rel}
use Rattle.acc_base.specs.Bounded.{is_wide}
use Rattle.acc_base.specs.Collecting.{multiple}
use Rattle.acc_farkas.specs.Sums.{Pair, is_refuting_wide}
use Rattle.acc_rows.specs.declared.stops.Stop.TheVariants as stop
use Rattle.acc_rows.specs.declared.rows.Row.{Row}
use Rattle.acc_rows.specs.Answers.{Computation}
use Rattle.acc_elim_points.specs.Points.{Point}
use Rattle.acc_elim_points.specs.Searches.{searched}
use Rattle.acc_elim_decisions.specs.declared.verdicts.ElimError.{ElimError}
use Rattle.acc_elim_decisions.specs.declared.verdicts.ElimError.TheVariants.{Wide, Many, Memory}
use Rattle.acc_elim_decisions.specs.declared.verdicts.Verdict.{Verdict}
use Rattle.acc_elim_decisions.specs.declared.verdicts.Verdict.TheVariants.{Refuted, Solved}

-- ---- the multipliers of a false constant: their opposites where it is an equation with a constant below 0

abbrev pub opposites : List Pair → List Pair
opposites ms = map (multiple (negsuc 0)) ms

abbrev pub takes_opposites : Row → Bool
takes_opposites r = r.equal && int_lt r.constant (pos 0)

abbrev pub multipliers : Row → List Pair
multipliers r = if takes_opposites r then opposites r.by else r.by

-- whether one of the opposites is beyond 2^120 on either side of 0
abbrev pub are_opposites_wide : List Pair → Bool
are_opposites_wide ms = list_any is_wide (map (λ m. negsuc 0 *ℤ m.1) ms)

abbrev pub are_multipliers_wide : Row → Bool
are_multipliers_wide r = if takes_opposites r then are_opposites_wide r.by else false

-- ---- the decision

-- a false constant refutes the relations; the numbers of the sum that shows it count last
abbrev pub refuted : List Rel → Row → Result Verdict ElimError
refuted rels r =
    if are_multipliers_wide r || is_refuting_wide rels (multipliers r) then Err Wide else Ok (Refuted (record { of = multipliers r }))

-- how an elimination ends: with a point, or with what stopped it. No elimination stops for want of memory
abbrev pub ended : List Rel → Computation Point → Result Verdict ElimError
ended rels (Ok point) = Ok (Solved point)
ended rels (Err (stop.Refuted r)) = refuted rels r
ended rels (Err stop.Wide) = Err Wide
ended rels (Err stop.Many) = Err Many
ended rels (Err stop.Memory) = Err Memory

abbrev pub decision : List Rel → Result Verdict ElimError
decision rels = ended rels (searched rels)
