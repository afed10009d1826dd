use Rattle.std.proofs.Common.{◌≡◌, ◌||◌, true, drop, take}
use Rattle.std.specs.Map.{keys_of}
use Rattle.std.specs.List.{list_any}
use Rattle.acc_base.specs.Tables.{Place}
use Rattle.acc_store.specs.Rows.{live, IsUp, AreFit, KeepsRoom, written, is_blank_at, is_put, is_gone}
use Rattle.acc_store.proofs.changes.write_all.Given as goal

abbrev pub invariant-loop-write : goal.invariant-loop-write
invariant-loop-write l =
    record {
      rows : written (drop l.write-index l.writes) (live l.entries.entries) ≡ written l.writes (live l.fn.entries.entries);
      keys : keys_of l.entries.entries ≡ keys_of l.fn.entries.entries;
      kept : KeepsRoom l.fn.entries.entries l.entries.entries;
      up : IsUp l.entries.entries;
      fit : AreFit l.entries.entries;
      blanks : (p : Place) → is_blank_at l.entries.entries p ≡ true →
          (list_any (is_put p) (drop l.write-index l.writes) || list_any (is_gone p) (take l.write-index l.writes)) ≡ true;
    }
