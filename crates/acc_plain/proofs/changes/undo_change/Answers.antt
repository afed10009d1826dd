use Rattle.acc_plain.proofs.AheadLemmas.{back_ends}
use Rattle.acc_plain.proofs.changes.undo_change.Goals as goal

pub back_change-requires : goal.back_change-requires
back_change-requires g c =
    record {
      ends = back_ends c.args.d.now (g.S.Store.rows c.args.s.now) c.args.f.now c.args.cause c.in-Ok.e c.requires.runnable
          c.in-Ok.ensures.value;
    }
