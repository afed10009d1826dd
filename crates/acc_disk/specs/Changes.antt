-- What stands after the calls that changed a file in memory.
-- Only the disk in memory speaks of this.
use Rattle.std.specs.Prelude.{List, [], ◌∷◌}
use Rattle.acc_disk.specs.declared.history.FileChange.{FileChange}
use Rattle.acc_disk.specs.declared.history.FileChange.TheVariants.{Wrote, Cut, Synced}
use Rattle.acc_disk.specs.declared.history.Recorded.{Recorded}
use Rattle.acc_disk.specs.Standings.{Standing, after_write, after_cut, after_sync}

-- after one of them
abbrev pub after_change : FileChange → Standing → Standing
after_change (Wrote at bytes) standing = after_write at bytes.items standing
after_change (Cut to) standing = after_cut to standing
after_change Synced standing = after_sync standing

-- after all of them, one behind the other
abbrev pub after_all : List Recorded → Standing → Standing
after_all [] standing = standing
after_all (recorded ∷ rest) standing = after_all rest (after_change recorded.change standing)
