use Rattle.std.proofs.Common.{append-nil, ◌++◌, []}
use Rattle.acc_farkas.proofs.Worths.{law_holds}
use Rattle.acc_farkas.proofs.refuting.refutes.Goals as goal

pub returns-clause-law : goal.returns-clause-law
returns-clause-law c =
    law_holds c.args.relations.now (c.args.relations.now ++ []) c.args.multipliers.now c.in_ok-refutes_both.field-0
    (append-nil c.args.relations.now) c.in_ok-refutes_both.ensures.value
