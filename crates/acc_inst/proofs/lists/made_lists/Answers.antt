use Rattle.acc_inst.proofs.ListsMade.{made_of}
use Rattle.acc_inst.proofs.lists.made_lists.Goals as goal

pub returns-clause-of : goal.returns-clause-of
returns-clause-of c =
    made_of c.args.sequent.now c.args.hints.now c.in_ok-insts.insts c.listed.result c.in_ok-insts.ensures c.listed.ensures.value
