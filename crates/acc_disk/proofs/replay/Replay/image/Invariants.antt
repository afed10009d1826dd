use Rattle.std.proofs.Common.{◌≡◌, ◌<◌, false, ℕ, get_or, length}
use Rattle.acc_disk.specs.Standings.{is_written}
use Rattle.acc_disk.proofs.replay.Replay.image.Given as goal

abbrev pub invariant-loop-place : goal.invariant-loop-place
invariant-loop-place l = record {
  count : length l.image.items ≡ l.place;
  untouched : (k : ℕ) → k < l.place → k < l.self.lowest → is_written l.self.written k ≡ false →
      get_or l.image.items k 0 ≡ get_or l.self.synced k 0;
}
