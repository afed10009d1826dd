use Rattle.std.proofs.Common.{◌∙◌}
use Rattle.acc_advise.proofs.Growing.{kept_if}
use Rattle.acc_advise.proofs.passes.try_again.Goals as goal

pub returns-then-known-len : goal.returns-then-known-len
returns-then-known-len g c =
    kept_if c.args.case.now c.args.grown.now c.args.known c.push.result c.args.left.now c.push.new.self c.requires.known
    (c.if-known-len.true ∙ c.len.ensures) c.push.ensures.ok
