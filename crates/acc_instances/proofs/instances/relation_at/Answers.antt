use Rattle.acc_instanced.proofs.InstanceValues.{law_holds}
use Rattle.acc_instances.proofs.instances.relation_at.Goals as goal

pub returns-clause-law : goal.returns-clause-law
returns-clause-law c =
    law_holds c.args.n c.args.own.now c.args.relation.now c.relation_of.result c.relation_of.ensures.value
