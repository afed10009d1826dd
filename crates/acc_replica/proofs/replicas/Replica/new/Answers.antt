use Rattle.std.proofs.Common.{ap, ◌∙◌}
use Rattle.acc_print.specs.Designs.{printed}
use Rattle.acc_replica.proofs.Next.{follows_new}
use Rattle.acc_replica.proofs.replicas.Replica.new.Goals as goal

pub returns-in-Ok-new-clause-follows : goal.returns-in-Ok-new-clause-follows
returns-in-Ok-new-clause-follows g c =
    let state = c.in-Ok-new.state in
    follows_new c.args.d.now state.design state.world c.new-in-Ok-new.result c.in-Ok-new.ensures.design c.in-Ok-new.ensures.start
    (c.new-in-Ok-new.ensures.base ∙ c.in-Ok.ensures.value ∙ ap printed c.design.ensures.design) c.new-in-Ok-new.ensures.follows
