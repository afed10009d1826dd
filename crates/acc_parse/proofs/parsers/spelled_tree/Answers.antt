use Rattle.std.proofs.Common.{◌≡◌, ◌∙◌, ap, arith}
use Rattle.acc_parse_statements.specs.Ends.{ends}
use Rattle.acc_parse_statements.specs.Counts.{statements_of}
use Rattle.acc_parse_statements.proofs.Counted.{spelled_ends}
use Rattle.acc_parse_statements.proofs.Within.{ends_within}
use Rattle.acc_parse.proofs.Continued.{good_front, no_tree}
use Rattle.acc_parse.proofs.WrongLines.{judged}
use Rattle.acc_parse.proofs.parsers.spelled_tree.Goals as goal

-- the words spell no tree
pub wrong_line-requires-clause-wrong : goal.wrong_line-requires-clause-wrong
wrong_line-requires-clause-wrong c =
    let found = rw c.in-Err-At.field-0-is at c.in-Err-At.ensures in
    no_tree c.args.text.now c.args.words.now c.requires found.answers.ends

pub wrong_line-requires-clause-judged : goal.wrong_line-requires-clause-judged
wrong_line-requires-clause-judged c =
    let found = rw c.in-Err-At.field-0-is at c.in-Err-At.ensures in
    judged c.args.text.now c.args.words.now c.in-Err-At.place c.requires (good_front c.args.words.now c.in-Err-At.place found.answers)

-- each statement has an end among the words
pub returns-in-Ok-clause-few : goal.returns-in-Ok-clause-few
returns-in-Ok-clause-few c =
    let words = c.args.words.now in
    let same : ends words ≡ statements_of c.in-Ok.tree = ap ends c.in-Ok.ensures.answers.spelled ∙ spelled_ends c.in-Ok.tree in
    omega (arith, same, ends_within words, c.count_of-count.ensures, c.count_of-count.type_inv)
