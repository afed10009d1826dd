use Rattle.acc_parse.proofs.WrongLines.{one_wrong}
use Rattle.acc_parse.proofs.Designs.{stands, only_one}
use Rattle.acc_parse.proofs.parsers.parse.Goals as goal

pub returns-in-Ok-clause-ok : goal.returns-in-Ok-clause-ok
returns-in-Ok-clause-ok c = stands c.args.text.now c.in-Ok.tree c.design_of_tree.result c.in-Ok.ensures.ok c.design_of_tree.ensures.ok

pub returns-in-Ok-clause-only : goal.returns-in-Ok-clause-only
returns-in-Ok-clause-only c = only_one c.args.text.now c.in-Ok.tree c.design_of_tree.result c.in-Ok.ensures.only c.design_of_tree.ensures.ok
    c.design_of_tree.ensures.err

pub returns-in-Err-clause-line : goal.returns-in-Err-clause-line
returns-in-Err-clause-line c = one_wrong c.args.text.now

pub returns-in-Err-clause-only : goal.returns-in-Err-clause-only
returns-in-Err-clause-only c d t = c.in-Err.ensures.only t.of
