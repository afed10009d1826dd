use Rattle.std.proofs.Common.{subst}
use Rattle.std.specs.Prelude.{OnOk}
use Rattle.acc_elim_known.specs.Ends.{IsCarried}
use Rattle.acc_elim_known.proofs.known.carry_copy.Goals as goal

pub returns : goal.returns
returns c =
    subst (λ r. OnOk c.carry_inequality.result (IsCarried c.args.known.now r c.carry_inequality.new.known)) c.in_ok-row.ensures
    c.carry_inequality.ensures
