use Rattle.std.proofs.Common.{◌≡◌, drop}
use Rattle.acc_base.specs.Computing.{steps}
use Rattle.acc_elim_systems.specs.Systems.{crossed_with}
use Rattle.acc_elim_systems.proofs.systems.cross_all.Given as goal

abbrev pub invariant-loop-up : goal.invariant-loop-up
invariant-loop-up l = steps (crossed_with l.fn.unknown l.lows) l.kept.items (drop l.up-index l.ups)
    ≡ steps (crossed_with l.fn.unknown l.lows) l.fn.kept.items l.ups
