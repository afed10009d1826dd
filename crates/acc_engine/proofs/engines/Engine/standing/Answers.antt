use Rattle.std.proofs.Common.{subst}
use Rattle.acc_engine.specs.Standing.{IsSound}
use Rattle.acc_engine.proofs.Standing.{sound_in_step}
use Rattle.acc_engine.proofs.engines.Engine.standing.Goals as goal

pub returns : goal.returns
returns g c =
    let inside = c.self.inside in
    subst (IsSound g.D.Disk.told) c.self.view_is
    (sound_in_step g.D.Disk.told inside.state.design inside.state.world inside.wal inside.found inside.calls inside.begun.items
    inside.lowest c.self.invariant.0 c.seals-seals.ensures.counts)
