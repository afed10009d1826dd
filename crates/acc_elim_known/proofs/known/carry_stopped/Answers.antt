use Rattle.acc_elim_known.proofs.Knowns.{stopped_carried}
use Rattle.acc_elim_known.proofs.known.carry_stopped.Goals as goal

pub returns : goal.returns
returns c = λ rows n is.
    stopped_carried rows n c.args.stopped.now c.args.row c.carry.new.path c.in_ok-carry.field-0 c.requires c.in_ok-carry.ensures is
