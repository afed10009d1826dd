use Rattle.std.proofs.Common.{◌∙◌}
use Rattle.acc_parse_statements.proofs.FirstLines.{front_at_feed, front_past_feed}
use Rattle.acc_parse_statements.proofs.lines.first_lines.Goals as goal
use Rattle.acc_parse_statements.proofs.lines.first_lines.Goals.{then-b-eq10, else-b-eq10}

-- one more byte is gone over
pub loop-i-preserved : goal.loop-i-preserved
loop-i-preserved c = elim c.if-b-eq10.branch [
  | then-b-eq10 w ↦ rw w.left-is (c.loop-i.invariant ∙ front_at_feed c.loop-i.left c.loop-i.i c.args.text.now c.loop-i-test.true
      w.if-b-eq10.true c.if-left-eq0.false)
  | else-b-eq10 w ↦ rw w.left-is (c.loop-i.invariant ∙ front_past_feed c.loop-i.left c.loop-i.i c.args.text.now c.loop-i-test.true
      w.if-b-eq10.false c.if-left-eq0.false)
]
