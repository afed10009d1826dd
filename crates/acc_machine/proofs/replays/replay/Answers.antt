use Rattle.std.proofs.Common.{refl, ap, ◌++◌, ◌∙◌}
use Rattle.acc_base.specs.Machine.{World, start}
use Rattle.acc_machine.proofs.Replaying.{lead_logs}
use Rattle.acc_machine.proofs.replays.replay.Goals as goal

-- no event has come
pub returns-in-Err-Memory-default-clause-refused : goal.returns-in-Err-Memory-default-clause-refused
returns-in-Err-Memory-default-clause-refused g c = (start, record { count = 0; came = refl }, c.in-Err-Memory-default.ensures.store)

pub returns-in-Ok-take_all-clause-events : goal.returns-in-Ok-take_all-clause-events
returns-in-Ok-take_all-clause-events g c =
    lead_logs c.in-Ok.state.design c.args.events.now c.in-Ok.state.world c.take_all.new.state.world c.in-Ok-take_all.ensures.all
    ∙ ap (λ (w : World). w.events ++ c.args.events.now) c.in-Ok.ensures.start
