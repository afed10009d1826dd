-- What stopped the pairs so far.
use Rattle.std.proofs.Common.{◌≡◌}
use Rattle.acc_advise.specs.Steps.{reasons}
use Rattle.acc_advise.proofs.passes.reasons.Given as goal

abbrev pub invariant-loop-known : goal.invariant-loop-known
invariant-loop-known l = l.all ≡ reasons l.yielded
