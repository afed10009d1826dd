-- Where the actions of a path leave rows, those are the rows after them.
use Rattle.std.proofs.Common.{[], ◌∷◌}
use Rattle.std.proofs.lemmas.Option.{same_Some}
use Rattle.acc_base.specs.Actions.{after_action}
use Rattle.acc_base.proofs.ActionRuns.{goes_on}
use Rattle.acc_preconditions.specs.Laws.{ActionsAgree}

pub leaves_rows_after : ActionsAgree
leaves_rows_after side env [] db after e = same_Some db after e
leaves_rows_after side env (a ∷ rest) db after e =
    leaves_rows_after side env rest (after_action env a db) after (goes_on side env a rest db after e).rest_goes
