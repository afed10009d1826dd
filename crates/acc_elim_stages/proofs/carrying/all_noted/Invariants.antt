use Rattle.std.proofs.Common.{◌≡◌, ◌++◌, vec_len}
use Rattle.std.specs.Prelude.{reverse}
use Rattle.acc_elim_stages.specs.Carried.{all_noted}
use Rattle.acc_elim_stages.proofs.carrying.all_noted.Given as goal

abbrev pub invariant-loop-step : goal.invariant-loop-step
invariant-loop-step l =
    l.all.items ++ all_noted (reverse l.rest.items) (reverse l.notes) ≡ all_noted (reverse l.fn.steps.items) (reverse l.fn.notes)

abbrev pub decreases-loop-step : goal.decreases-loop-step
decreases-loop-step l = vec_len l.rest
