use Rattle.std.proofs.Common.{◌≡◌, ◌+◌, ◌++◌, drop, false}
use Rattle.acc_oblig.specs.Drafts.{goal_drafts}
use Rattle.acc_oblig_goals.specs.Causes.{sequents, at_case}
use Rattle.acc_oblig_goals.proofs.sequents.add_goals.Given as goal

abbrev pub invariant-loop-i : goal.invariant-loop-i
invariant-loop-i l =
    l.out ++ sequents (goal_drafts (at_case l.shared.origin) l.shared.vars l.shared.hyps l.shared.rels false (l.i + 1) (drop l.i l.goals))
    ≡ l.fn.out ++ sequents (goal_drafts (at_case l.shared.origin) l.shared.vars l.shared.hyps l.shared.rels false 1 l.goals)
