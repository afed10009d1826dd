use Rattle.std.proofs.Common.{ap, subst, ◌∙◌}
use Rattle.acc_base.specs.Machine.{World}
use Rattle.acc_engine.specs.Keeping.{Journalled}
use Rattle.acc_engine.specs.Standing.{IsSound}
use Rattle.acc_running.proofs.engines.closed.Goals as goal

pub returns-clause-sound : goal.returns-clause-sound
returns-clause-sound g c = subst (IsSound g.D.Disk.told) c.player.view_is c.player.invariant

pub returns-clause-hands : goal.returns-clause-hands
returns-clause-hands g c = record {
  disk_is =
      c.give_back.ensures.disk ∙ c.give_back-state.ensures.disk.0 ∙ ap (λ (e : Journalled g.row.D.Denot). e.disk) c.player.view_is;
  history_is =
      c.into_parts-history.ensures.events
      ∙ ap (λ (w : World). w.events) c.give_back-state.ensures.state.0
      ∙ ap (λ (e : Journalled g.row.D.Denot). e.state.events) c.player.view_is;
  settled_is = c.settled-settled.ensures.count ∙ ap (λ (e : Journalled g.row.D.Denot). e.settled) c.player.view_is;
}
