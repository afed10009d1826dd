use Rattle.std.proofs.Common.{◌≡◌, None, sym, ap, ◌∙◌, subst}
use Rattle.std.specs.List.{list_any}
use Rattle.acc_base.specs.Machine.{start, reply_at}
use Rattle.acc_lift.proofs.Theorem.{lead_runs}
use Rattle.acc_engine.specs.Acks.{durable_reply, is_turn_of}
use Rattle.acc_engine.specs.Keeping.{Journalled}
use Rattle.acc_engine.proofs.Tails.{none_there, reply_there}
use Rattle.acc_engine.proofs.engines.Engine.ack.Goals as goal

pub returns-then-has_turn : goal.returns-then-has_turn
returns-then-has_turn g c =
    let s = c.self.inside.state in
    let wal = c.self.inside.wal in
    let run = lead_runs s.design s.world.events start s.world c.self.invariant.0.state.good.lawful in
    let some = ap (list_any (is_turn_of c.args.t)) (sym c.tail.ensures) ∙ sym c.has_turn.ensures ∙ c.if-has_turn.true in
    subst (λ (j : Journalled g.row.D.Denot). None ≡ durable_reply j c.args.t) c.self.view_is
    (none_there s.design s.world wal.durable wal.tail c.args.t run c.self.invariant.0.same some)

pub returns-else-has_turn : goal.returns-else-has_turn
returns-else-has_turn g c =
    let s = c.self.inside.state in
    let wal = c.self.inside.wal in
    let run = lead_runs s.design s.world.events start s.world c.self.invariant.0.state.good.lawful in
    let none = ap (list_any (is_turn_of c.args.t)) (sym c.tail.ensures) ∙ sym c.has_turn.ensures ∙ c.if-has_turn.false in
    c.reply.ensures
    ∙ subst (λ (j : Journalled g.row.D.Denot). reply_at c.args.t s.world ≡ durable_reply j c.args.t) c.self.view_is
    (reply_there s.design s.world wal.durable wal.tail c.args.t run c.self.invariant.0.same none)
