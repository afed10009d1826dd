use Rattle.std.proofs.Common.{◌≡◌, drop}
use Rattle.acc_disk.specs.Standings.{settled}
use Rattle.acc_disk.proofs.Replays.{after_by}
use Rattle.acc_disk.proofs.history.History.replay.Given as goal

abbrev pub invariant-loop-recorded : goal.invariant-loop-recorded
invariant-loop-recorded l = after_by l.calls l.replay (drop l.recorded-index l.self.past.items) ≡ after_by l.calls
    (settled l.self.start.items) l.self.past.items
