use Rattle.std.proofs.Common.{◌≡◌, ◌≤◌, length}
use Rattle.std.specs.List.{flat_map, range_with_len}
use Rattle.acc_journalled.specs.Recovering.{number_line}
use Rattle.acc_journalled.proofs.replies.reply_lines.Given as goal

abbrev pub invariant-loop-at : goal.invariant-loop-at
invariant-loop-at l = record {
  lines : l.text.items ≡ flat_map (number_line l.state.world) (range_with_len 1 l.at);
  within : l.at ≤ length l.state.world.transactions;
}
