use Rattle.std.proofs.Common.{sym, ◌∙◌}
use Rattle.acc_elim_known.specs.Ends.{IsCarried}
use Rattle.acc_elim_known.proofs.Knowns.{when_ok}
use Rattle.acc_elim_known.proofs.known.is_carried.Goals as goal

pub returns-then-not-last : goal.returns-then-not-last
returns-then-not-last c = λ told.
    when_ok c.carry_copy.result (IsCarried c.args.known.now c.args.last.now c.carry_copy.new.known)
    (sym c.is_ok.ensures.value ∙ told) c.carry_copy.ensures
