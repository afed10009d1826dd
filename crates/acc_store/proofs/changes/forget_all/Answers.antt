use Rattle.std.proofs.Common.{◌∙◌}
use Rattle.acc_store.specs.Rows.{leaves_blank}
use Rattle.acc_store.proofs.Blanks.{blanks_forgotten, all_forgotten}
use Rattle.acc_store.proofs.changes.forget_all.Goals as goal

pub loop-write-preserved : goal.loop-write-preserved
loop-write-preserved c =
    let i = c.loop-write.invariant in
    let e = c.forget_for.ensures in
    record {
      rows = e.rows ∙ i.rows;
      up = e.up;
      fit = e.fit;
      blanks = blanks_forgotten c.args.writes.now c.loop-write.write-index c.write-item.result c.loop-write-test.true c.write-item.is
          c.args.were_put c.loop-write.entries.entries c.forget_for.new.entries.entries e.blanks i.blanks;
    }

pub returns-clause-blanks : goal.returns-clause-blanks
returns-clause-blanks c =
    all_forgotten (leaves_blank c.args.were_put) c.args.writes.now c.loop-write.write-index c.loop-write.entries.entries
    c.loop-write-test.false c.loop-write.invariant.blanks
