use Rattle.std.proofs.Common.{subst, List, ℕ}
use Rattle.std.specs.List.{Contains}
use Rattle.acc_base.specs.declared.machines.Event.{Event}
use Rattle.acc_pass.proofs.Lists.{in_none}
use Rattle.acc_threads.proofs.crew.work_one.Goals as goal

pub work-pass-requires-clause-none : goal.work-pass-requires-clause-none
work-pass-requires-clause-none g c κs lives t m =
    in_none (m.0.place, m.0.event) (subst (λ (l : List (ℕ × Event)). Contains l (m.0.place, m.0.event)) c.args.job.empty m.0.stands)
