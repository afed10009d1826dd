use Rattle.std.proofs.Common.{sym, subst, ◌∙◌}
use Rattle.acc_engine.specs.Standing.{IsSound}
use Rattle.acc_engine.proofs.Standing.{sound_sealed}
use Rattle.acc_engine.proofs.engines.Engine.seal.Goals as goal

pub returns-in-Ok-push_text-clause-sound : goal.returns-in-Ok-push_text-clause-sound
returns-in-Ok-push_text-clause-sound g c =
    let old = c.self.inside in
    sound_sealed g.D.Disk.told old.state.design old.state.world old.wal c.push_text.new.wal old.found old.calls old.begun.items
    c.as_slice.result.now (sym c.self.invariant.2 ∙ c.if-self.false) c.in-Ok-push_text.ensures.ok
    (subst (IsSound g.D.Disk.told) (sym c.self.view_is) c.standing.ensures)
