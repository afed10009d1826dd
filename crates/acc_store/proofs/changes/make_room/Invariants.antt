use Rattle.std.proofs.Common.{◌≡◌, take, true}
use Rattle.std.specs.List.{list_all}
use Rattle.acc_store.specs.Rows.{live, IsUp, AreFit, has_room, KeepsRoom, BlanksAre, is_put}
use Rattle.acc_store.proofs.changes.make_room.Given as goal

abbrev pub invariant-loop-write : goal.invariant-loop-write
invariant-loop-write l =
    record {
      rows : live l.entries.entries ≡ live l.fn.entries.entries;
      room : list_all (has_room l.entries.entries) (take l.write-index l.writes) ≡ true;
      kept : KeepsRoom l.fn.entries.entries l.entries.entries;
      up : IsUp l.entries.entries;
      fit : AreFit l.entries.entries;
      blanks : BlanksAre is_put (take l.write-index l.writes) l.entries.entries;
    }
