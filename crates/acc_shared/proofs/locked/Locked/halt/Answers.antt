use Rattle.std.proofs.Common.{◌≡◌, sym, ◌∙◌, Some, [], true}
use Rattle.acc_pass.specs.Rules.{known}
use Rattle.acc_beside.proofs.Calling.{taken, tied_as, looks_at}
use Rattle.acc_shared.proofs.locked.Locked.halt.Goals as goal

pub returns-clause-looks : goal.returns-clause-looks
returns-clause-looks g c =
    let e = c.self.inside.engine in
    let k : Some c.in-Some.keeper ≡ Some (known true e.failed e.state.events []) = sym c.in-Some.is ∙
    (c.take.ensures.value ∙ c.self.invariant.0) in
    let j = c.take_in-joined.ensures in
    let t = taken c.in-Some.keeper c.args.pass c.take_in-joined.result j.tied j.begun j.broken in
    looks_at g.B.Run.script.design e c.args.pass c.take_in-joined.result c.split-pass.result.0 c.self.invariant.1.kept
    (tied_as c.in-Some.keeper c.args.pass c.take_in-joined.result e k j.tied) t c.split-pass.ensures.first
