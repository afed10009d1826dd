use Rattle.std.specs.Prelude.{Some}
use Rattle.acc_journalled.proofs.Putting.{recovered_from}
use Rattle.acc_journalled.proofs.migrating.begin_from.Goals as goal

pub returns-in-Ok-begin_with-clause-ok : goal.returns-in-Ok-begin_with-clause-ok
returns-in-Ok-begin_with-clause-ok g c =
    let r = c.in-Ok.found in
    record {
      last = r.state.world;
      recovered =
          recovered_from c.args.d.now (Some c.args.old.now) r.state.world r.wal r.compensated c.in-Ok.ensures.ok c.in-Ok.ensures.idle;
      base_is = c.in-Ok-begin_with.ensures.base;
      history_is = c.in-Ok-begin_with.ensures.history;
      text_is = c.in-Ok-begin_with.ensures.text;
      says = c.in-Ok-begin_with.ensures.said;
    }
