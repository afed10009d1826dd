use Rattle.std.proofs.Common.{arith}
use Rattle.acc_engine.proofs.Unbegun.{unbegun_widened}
use Rattle.acc_engine.proofs.marks.widen.Goals as goal

pub returns-then-len-count-clause-same : goal.returns-then-len-count-clause-same
returns-then-len-count-clause-same c calls =
    unbegun_widened _ c.args.begun.now.items c.resize.new.self.items c.args.count _ calls (omega (arith, c.len.ensures))
    c.resize.ensures.items
