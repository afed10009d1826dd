use Rattle.std.proofs.Common.{arith, sym, ap, subst}
use Rattle.acc_base.specs.Machine.{World}
use Rattle.acc_disk.specs.Crashes.{IsCalm}
use Rattle.acc_settling.proofs.BeginSizes.{begins_take}
use Rattle.acc_settling.proofs.Sealings.{front_of_right}
use Rattle.acc_settling.proofs.engines.over_journal.Goals as goal

pub returns-clause-ready : goal.returns-clause-ready
returns-clause-ready g c = λ calm each.
    let wal = c.args.wal in
    let new = c.new.ensures in
    record {
      unfailed = new.journal.2;
      calm = subst (λ d. IsCalm (g.D.Disk.told d) (g.D.Disk.may_leave d)) (sym new.journal.0) calm;
      counts = λ file is.
          front_of_right c.new.result c.args.state.design c.args.state.world.events wal.seals file new.state.1
          (ap (λ (w : World). w.events) new.state.0) new.states.1 new.all.0 each (new.sound.journal new.journal.2 file is);
    }

pub new-requires-clause-few : goal.new-requires-clause-few
new-requires-clause-few g c = omega (arith, begins_take c.args.calls, c.requires.few)
