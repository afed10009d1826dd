use Rattle.std.proofs.Common.{◌≡◌, ◌+◌, ◌*◌, ◌++◌, drop, false}
use Rattle.acc_oblig.specs.Spares.{ordered_drafts}
use Rattle.acc_oblig_goals.specs.Causes.{sequents, at_case}
use Rattle.acc_oblig_paths.proofs.orders.add_ordered.Given as goal

abbrev pub invariant-loop-goal : goal.invariant-loop-goal
invariant-loop-goal l =
    let make = ordered_drafts (at_case l.o.origin) l.o.vars l.o.hyps l.o.first l.o.lower l.o.higher l.o.rest false in
    record {
      case : l.case ≡ 2 * l.goal-index + 1;
      out : l.out ++ sequents (make l.case (drop l.goal-index l.goals)) ≡ l.fn.out ++ sequents (make 1 l.goals);
    }
