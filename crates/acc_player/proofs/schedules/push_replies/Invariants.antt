use Rattle.std.proofs.Common.{◌≡◌, ◌++◌}
use Rattle.std.specs.List.{flat_map, range_with_len}
use Rattle.acc_player.specs.Schedules.{line_after}
use Rattle.acc_player.proofs.schedules.push_replies.Given as goal

abbrev pub invariant-loop-at : goal.invariant-loop-at
invariant-loop-at g l =
    l.text.items ≡ l.fn.text.items ++ flat_map (line_after (g.P.Player.world l.player) l.numbers) (range_with_len 1 l.at)
