use Rattle.std.proofs.Common.{subst}
use Rattle.acc_rows.proofs.Chains.{answers_along}
use Rattle.acc_elim_known.specs.Ends.{IsKnown, IsWhole, IsStopped}
use Rattle.acc_elim_known.proofs.Knowns.{whole_found, found_stopped, stopped_by}
use Rattle.acc_elim_known.proofs.known.found.Goals as goal

pub returns-in-Whole-clause-value : goal.returns-in-Whole-clause-value
returns-in-Whole-clause-value c = λ rows n is.
    let h : IsWhole rows n c.in-Whole.whole = subst (IsKnown rows n) c.in-Whole.is is in
    answers_along c.found_whole.result _ _ (whole_found rows n c.in-Whole.whole h) c.found_whole.ensures.value

pub returns-in_ok-copied_stop-in-Stopped-clause-value : goal.returns-in_ok-copied_stop-in-Stopped-clause-value
returns-in_ok-copied_stop-in-Stopped-clause-value c = λ rows n is.
    let h : IsStopped rows n c.in-Stopped.stopped = subst (IsKnown rows n) c.in-Stopped.is is in
    stopped_by _ c.in-Stopped.stopped.stop _ c.in_ok-copied_stop-in-Stopped.ensures (found_stopped rows n c.in-Stopped.stopped h)
