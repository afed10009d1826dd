use Rattle.acc_axioms.proofs.NeedTruths.{law_holds}
use Rattle.acc_axioms.proofs.axioms.need_of.Goals as goal

pub returns-clause-law : goal.returns-clause-law
returns-clause-law c =
    law_holds c.args.design.now c.args.sequent.now c.args.schema.now c.demanded.result c.demanded.ensures
