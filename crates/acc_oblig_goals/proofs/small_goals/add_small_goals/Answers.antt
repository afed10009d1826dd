use Rattle.acc_oblig_goals.specs.Causes.{at_case}
use Rattle.acc_oblig_goals.proofs.Narrow.{none_wide}
use Rattle.acc_oblig_goals.proofs.small_goals.add_small_goals.Goals as goal

pub returns : goal.returns
returns c =
    let s = c.args.shared.now in
    (c.in_ok-add_goals.ensures, none_wide (at_case s.origin) s.vars s.hyps s.rels 1 c.args.goals.now)
