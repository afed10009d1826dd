use Rattle.std.proofs.Common.{◌≡◌, sym, ap, ◌∙◌, Some, [], true}
use Rattle.acc_pass.specs.Rules.{known}
use Rattle.acc_base.specs.Machine.{world}
use Rattle.acc_pass.specs.declared.views.Known.{Known}
use Rattle.acc_beside.proofs.Beside.{run_of}
use Rattle.acc_beside.proofs.Calling.{taken, keeper_is, turns_through}
use Rattle.acc_shared.proofs.locked.Locked.turn.Goals as goal

pub returns-clause-turns : goal.returns-clause-turns
returns-clause-turns g c =
    let e = c.self.inside.engine in
    let k : Some c.in-Some.keeper ≡ Some (known true e.failed e.state.events []) = sym c.in-Some.is ∙
    (c.take.ensures.value ∙ c.self.invariant.0) in
    let j = c.take_in-joined.ensures in
    let t = taken c.in-Some.keeper c.args.pass c.take_in-joined.result j.tied j.begun j.broken in
    turns_through g.B.Run.script.design c.args.pass c.take_in-joined.result c.turn_in-joined.result.0 c.split-pass.result.0 t
    c.split-pass.ensures.first c.args.t c.turn_in-joined.result.1 c.turn_in-joined.ensures.turns

pub turn_in-joined-requires-clause-own : goal.turn_in-joined-requires-clause-own
turn_in-joined-requires-clause-own g c =
    let e = c.self.inside.engine in
    let d = g.B.Run.script.design in
    let k : Some c.in-Some.keeper ≡ Some (known true e.failed e.state.events []) = sym c.in-Some.is ∙
    (c.take.ensures.value ∙ c.self.invariant.0) in
    let seen = ap (λ (x : Known). x.seen) (keeper_is c.in-Some.keeper e k) in
    (c.take_in-joined.ensures.live d c.args.t e.state (ap (world d) seen ∙ run_of d e.state c.self.invariant.1.kept) c.requires.may).0

pub turn_in-joined-requires-clause-live : goal.turn_in-joined-requires-clause-live
turn_in-joined-requires-clause-live g c =
    let e = c.self.inside.engine in
    let d = g.B.Run.script.design in
    let k : Some c.in-Some.keeper ≡ Some (known true e.failed e.state.events []) = sym c.in-Some.is ∙
    (c.take.ensures.value ∙ c.self.invariant.0) in
    let seen = ap (λ (x : Known). x.seen) (keeper_is c.in-Some.keeper e k) in
    (c.take_in-joined.ensures.live d c.args.t e.state (ap (world d) seen ∙ run_of d e.state c.self.invariant.1.kept) c.requires.may).1
