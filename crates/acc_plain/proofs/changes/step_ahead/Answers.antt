use Rattle.std.proofs.Common.{arith}
use Rattle.acc_plain.proofs.AheadLemmas.{ahead_is}
use Rattle.acc_plain.proofs.changes.step_ahead.Goals as goal

pub returns-in-Ok : goal.returns-in-Ok
returns-in-Ok g c =
    rw c.unless_refused.ensures (ahead_is c.args.d.now (g.S.Store.rows c.args.s.now) c.args.f.now c.in-Ok.e c.requires.runnable
    c.requires.unasked c.requires.left (omega arith) c.in-Ok.ensures.value c.in-Ok.ensures.narrow)
