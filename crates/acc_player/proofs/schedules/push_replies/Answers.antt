use Rattle.acc_player.proofs.Lines.{lines_more}
use Rattle.acc_player.specs.Schedules.{line_after}
use Rattle.acc_player.proofs.schedules.push_replies.Goals as goal

pub loop-at-preserved : goal.loop-at-preserved
loop-at-preserved g c =
    lines_more (line_after (g.P.Player.world c.args.player.now) c.args.numbers.now) c.args.text.now.items c.loop-at.text.items
    c.push_reply_line.new.text.items c.loop-at.at c.loop-at.invariant c.in_ok-push_reply_line.ensures
