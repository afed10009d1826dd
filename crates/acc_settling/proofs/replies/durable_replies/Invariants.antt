use Rattle.std.proofs.Common.{◌≡◌}
use Rattle.std.specs.List.{flat_map, range_with_len}
use Rattle.acc_settling.specs.Replies.{durable_line}
use Rattle.acc_settling.proofs.replies.durable_replies.Given as goal

abbrev pub invariant-loop-at : goal.invariant-loop-at
invariant-loop-at g l = l.text.items ≡ flat_map (durable_line l.engine l.numbers) (range_with_len 1 l.at)
