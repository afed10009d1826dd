use Rattle.std.proofs.Common.{◌≡◌, ◌-◌}
use Rattle.acc_base.specs.Computing.{steps}
use Rattle.acc_base.specs.Items.{numbers_from}
use Rattle.acc_elim_systems.specs.Systems.{set_aside, whole}
use Rattle.acc_elim_systems.specs.Repetitions.{AreApart}
use Rattle.acc_elim_systems.proofs.systems.set_all_aside.Given as goal

abbrev pub invariant-loop-unknown : goal.invariant-loop-unknown
invariant-loop-unknown l = record {
  so_far : steps set_aside l.state (numbers_from l.unknown (l.fn.unknowns - l.unknown))
      ≡ steps set_aside (whole l.fn.rows) (numbers_from 0 l.fn.unknowns);
  apart : AreApart l.state.rows;
}
