use Rattle.std.proofs.Common.{rules}
use Rattle.acc_base.specs.Machine.{World}
use Rattle.acc_plain.proofs.Runs.{begin_reached}
use Rattle.acc_plain.proofs.machines.Machine.begin.Goals as goal

pub invariant_of-self-2 : goal.invariant_of-self-2
invariant_of-self-2 g c =
    let w : World = record {
      rows = g.S.Store.rows c.self.inside.store;
      transactions = c.self.inside.transactions;
      events =
          c.self.inside.events;
    } in
    let d = c.self.inside.design.now in
    begin_reached d w c.args.call.now c.log_begin.new.transactions c.log_begin.new.events c.self.invariant
    (rw (← c.self.view_is) at c.requires.fits) (search rules) (search rules)
