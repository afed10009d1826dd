use Rattle.std.proofs.Common.{◌+◌, ◌++◌, length, Ok, sym, ◌∙◌}
use Rattle.acc_lex.specs.LineTokens.{gap}
use Rattle.acc_lex.specs.Readings.{Remark, remark_at}
use Rattle.acc_lex.proofs.readers.Lexer.remark.Goals as goal

pub returns : goal.returns
unfolding remark_at
returns c = (
  Remark c.comment-comment.result.now,
  rw (c.in_ok-byte.ensures.given, c.comment-comment.ensures.given)
      (λ i. Ok (Remark c.comment-comment.result.now, sym c.in_ok-add_gap.ensures.rest i)),
  c.in_ok-add_gap.ensures.added ∙ (λ i. (c.comment-comment.ensures.parts ∙ c.in_ok-byte.ensures.parts) i ++ gap
      (1 + length c.comment-comment.result.now)),
)
