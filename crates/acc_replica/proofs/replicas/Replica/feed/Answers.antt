use Rattle.acc_replica.specs.Replicas.{Replicated}
use Rattle.acc_replica.proofs.Next.{follows_fed}
use Rattle.acc_replica.proofs.replicas.Replica.feed.Goals as goal

pub returns-clause-follows : goal.returns-clause-follows
returns-clause-follows g c = λ fed f.
    let inside = c.self.inside in
    let old : Replicated = record { design = inside.state.design; world = inside.state.world; stream = inside.stream; refused = inside.refused } in
    let fed_on = c.in_default.ensures in
    follows_fed fed c.args.piece.now old c.args.self.now c.feed.new.self c.self.view_is f (fed_on.ok fed) fed_on.adds fed_on.ended fed_on.base
