use Rattle.std.proofs.Common.{arith}
use Rattle.acc_cases_engine_runs.proofs.calls.calls_in.Goals as goal

pub returns-in-Ok-clause-few : goal.returns-in-Ok-clause-few
returns-in-Ok-clause-few c = omega (arith, c.in-Ok.ensures.short)
