use Rattle.std.proofs.Common.{length, sym, ap, ◌∙◌}
use Rattle.acc_engine.proofs.InSteps.{in_step_new}
use Rattle.acc_engine.proofs.Sealed.{none_held}
use Rattle.acc_engine.proofs.Standing.{sound_in_step}
use Rattle.acc_engine.proofs.engines.Engine.new.Goals as goal

pub invariant_of-result : goal.invariant_of-result
invariant_of-result g c = (
  in_step_new c.args.state.design c.args.state.world c.args.wal.durable c.args.wal.tail _ c.args.calls _
      (record { accepted = c.events.ensures.accepted; good = c.events.ensures.good })
      c.requires.same c.requires.settled c.requires.fits c.requires.few c.new.ensures.items
      (c.len-found.ensures ∙ ap length c.events.ensures.events),
  none_held c.args.state.design c.args.state.world.events c.args.wal.waiting c.requires.quiet,
  sym c.requires.unspent,
)

pub returns-clause-sound : goal.returns-clause-sound
returns-clause-sound g c =
    sound_in_step g.D.Disk.told c.args.state.design c.args.state.world c.args.wal _ c.args.calls _ 0
    (in_step_new c.args.state.design c.args.state.world c.args.wal.durable c.args.wal.tail _ c.args.calls _
    (record { accepted = c.events.ensures.accepted; good = c.events.ensures.good })
    c.requires.same c.requires.settled c.requires.fits c.requires.few c.new.ensures.items
    (c.len-found.ensures ∙ ap length c.events.ensures.events))
    c.seals-seals.ensures.counts
