use Rattle.std.proofs.Common.{◌≤◌}
use Rattle.acc_elim_stages.specs.Stages.{IsStage}
use Rattle.acc_elim_known.proofs.known.known_of.Given as goal

abbrev pub invariant-loop-unknown : goal.invariant-loop-unknown
invariant-loop-unknown l = record {
  stage : IsStage l.fn.rows.items l.unknown l.stage;
  within : l.unknown ≤ l.fn.unknowns;
}
