use Rattle.std.proofs.Common.{[]}
use Rattle.acc_player.proofs.Lines.{lines_more}
use Rattle.acc_settling.specs.Replies.{durable_line}
use Rattle.acc_settling.proofs.replies.durable_replies.Goals as goal

pub loop-at-preserved : goal.loop-at-preserved
loop-at-preserved g c =
    lines_more (durable_line c.args.engine.now c.args.numbers.now) [] c.loop-at.text.items c.push_durable_line.new.text.items c.loop-at.at
    c.loop-at.invariant c.in_ok-push_durable_line.ensures
