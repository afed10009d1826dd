use Rattle.std.proofs.Common.{◌≡◌, drop}
use Rattle.acc_base.specs.Computing.{steps}
use Rattle.acc_elim_systems.specs.Systems.{crossed_once}
use Rattle.acc_elim_systems.proofs.systems.cross_lows.Given as goal

abbrev pub invariant-loop-low : goal.invariant-loop-low
invariant-loop-low l = steps (crossed_once l.fn.unknown l.up) l.kept.items (drop l.low-index l.lows)
    ≡ steps (crossed_once l.fn.unknown l.up) l.fn.kept.items l.lows
