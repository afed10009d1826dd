use Rattle.std.proofs.Common.{ap, sym, ◌∙◌, length, arith}
use Rattle.std.specs.Prelude.{option_copied}
use Rattle.acc_journalled.proofs.Numbered.{line_more, replied_within, lines_up_to, lines_of_all}
use Rattle.acc_journalled.proofs.replies.reply_lines.Goals as goal
use Rattle.acc_journalled.proofs.replies.reply_lines.Goals.{else-loop-at-test, then-loop-at-test+in_default}

pub loop-at-preserved : goal.loop-at-preserved
loop-at-preserved c =
    let w = c.args.state.now.world in
    let found = sym c.reply.ensures ∙ ap option_copied c.in-Some.is in
    record {
      lines = line_more w c.loop-at.text.items c.push_reply.new.out.items c.loop-at.at c.in-Some.reply.now c.loop-at.invariant.lines found
          c.in_ok-push_reply.ensures.ok;
      within = replied_within w c.loop-at.at c.in-Some.reply.now found;
    }

-- there are as many as events, or the next transaction has no reply
pub returns : goal.returns
returns c =
    let w = c.args.state.now.world in
    let text = c.loop-at.text.items in
    let n = c.loop-at.at in
    let i = c.loop-at.invariant in
    let events = c.len-at-end.ensures ∙ ap length c.events.ensures.events in
    elim c.loop-at-test.branch [
      | else-loop-at-test k ↦ lines_of_all c.args.state.now.design w text n c.events.ensures.good
          (omega (arith, k.loop-at-test.false, events)) i.within i.lines
      | then-loop-at-test+in_default k ↦ lines_up_to w text n c.requires.ended i.within i.lines
          (sym k.reply.ensures ∙ ap option_copied k.in_default.is)
    ]
