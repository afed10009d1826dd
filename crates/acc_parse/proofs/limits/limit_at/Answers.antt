use Rattle.acc_parse.proofs.Statements.{has_statement, first_within}
use Rattle.acc_parse.proofs.Limited.{passes_lowest, passes_collected}
use Rattle.acc_parse.proofs.limits.limit_at.Goals as goal

pub line_of-requires : goal.line_of-requires
line_of-requires c = has_statement c.args.text.now c.args.tree.now c.args.first c.requires.grammatical c.requires.few
    (first_within c.args.tree.now c.args.first c.requires.first)

pub returns-in-Some : goal.returns-in-Some
returns-in-Some c =
    let line = c.in_ok-line.line in
    passes_lowest c.args.text.now c.args.tree.now line.number line.from line.to c.args.first c.in-Some.limit c.requires.first
    c.in_ok-line.ensures.line c.in_ok-line.ensures.others (c.in-Some.ensures.lowest c.requires.few)

pub returns-in-None : goal.returns-in-None
returns-in-None c =
    let line = c.in_ok-line.line in
    passes_collected c.args.text.now c.args.tree.now line.number line.from line.to c.args.first c.requires.first
    c.in_ok-line.ensures.line c.in_ok-line.ensures.others (c.in-None.ensures.none c.requires.few)
