use Rattle.std.proofs.Common.{◌≡◌, drop}
use Rattle.acc_store.specs.Rows.{live, IsUp, AreFit, BlanksAre, leaves_blank}
use Rattle.acc_store.proofs.changes.forget_all.Given as goal

abbrev pub invariant-loop-write : goal.invariant-loop-write
invariant-loop-write l =
    record {
      rows : live l.entries.entries ≡ live l.fn.entries.entries;
      up : IsUp l.entries.entries;
      fit : AreFit l.entries.entries;
      blanks : BlanksAre (leaves_blank l.were_put) (drop l.write-index l.writes) l.entries.entries;
    }
