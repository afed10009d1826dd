use Rattle.std.proofs.Common.{◌≡◌, sym, ◌∙◌, Some, [], true}
use Rattle.acc_pass.specs.Rules.{known}
use Rattle.acc_beside.proofs.Calling.{taken, acks_through}
use Rattle.acc_shared.proofs.locked.Locked.ack.Goals as goal

pub returns-clause-acks : goal.returns-clause-acks
returns-clause-acks g c =
    let e = c.self.inside.engine in
    let k : Some c.in-Some.keeper ≡ Some (known true e.failed e.state.events []) = sym c.in-Some.is ∙
    (c.take.ensures.value ∙ c.self.invariant.0) in
    let j = c.take_in-joined.ensures in
    let t = taken c.in-Some.keeper c.args.pass c.take_in-joined.result j.tied j.begun j.broken in
    acks_through g.B.Run.script.design c.args.pass c.take_in-joined.result c.ack_in-joined.result.0 c.split-pass.result.0 t
    c.split-pass.ensures.first c.args.t c.ack_in-joined.result.1 c.ack_in-joined.ensures.acks
