use Rattle.std.proofs.Common.{Some}
use Rattle.std.specs.Prelude.{reverse}
use Rattle.acc_elim_stages.proofs.Lefts.{answers_untold}
use Rattle.acc_elim_stages.proofs.following.follow_step.Goals as goal

pub returns-in-Some-clause-untold : goal.returns-in-Some-clause-untold
returns-in-Some-clause-untold c =
    answers_untold c.args.first.now (reverse c.args.earlier.now) c.args.step.now (Some c.in-Some.row) c.follow_row.result
    c.follow_row.ensures
