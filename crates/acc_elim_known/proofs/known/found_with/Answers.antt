use Rattle.std.proofs.Common.{◌≡◌, ◌++◌, ◌∷◌, [], false, subst, sym, rules}
use Rattle.acc_rows.proofs.Chains.{answers_along}
use Rattle.acc_elim_known.specs.Ends.{IsKnown, IsStopped}
use Rattle.acc_elim_known.proofs.Knowns.{found_stopped_with, found_unbegun, unbegun_with, stopped_by}
use Rattle.acc_elim_known.proofs.known.found_with.Goals as goal

pub returns-in-Stopped-clause-value : goal.returns-in-Stopped-clause-value
returns-in-Stopped-clause-value c =
    let rows = c.args.rows.now in
    let s = c.in-Stopped.stopped in
    let equal : c.args.row.equal ≡ false = search rules in
    let is : IsStopped rows c.requires.0 s = subst (IsKnown rows c.requires.0) c.in-Stopped.is c.requires.2 in
    answers_along c.stop_with.result _ _
    (sym (found_stopped_with rows c.requires.0 c.args.unknowns s c.args.row is c.requires.1 equal)) c.stop_with.ensures

pub returns-in_ok-copied_stop-in-Unbegun-clause-value : goal.returns-in_ok-copied_stop-in-Unbegun-clause-value
returns-in_ok-copied_stop-in-Unbegun-clause-value c =
    let rows = c.args.rows.now in
    let stop = c.in-Unbegun.stop in
    let is = subst (IsKnown rows c.requires.0) c.in-Unbegun.is c.requires.2 in
    stopped_by _ stop _ c.in_ok-copied_stop-in-Unbegun.ensures
    (found_unbegun (rows ++ c.args.row ∷ []) c.args.unknowns stop (unbegun_with rows c.args.row stop is))
