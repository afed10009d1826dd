use Rattle.std.proofs.Common.{◌++◌, ◌∙◌, ap}
use Rattle.std.proofs.lemmas.List.{append_assoc}
use Rattle.acc_parse_names.specs.Faults.{head_faults}
use Rattle.acc_parse_names.specs.Bodies.{body_faults}
use Rattle.acc_parse_names.proofs.types.type_faults.Goals as goal

pub returns-clause-faults : goal.returns-clause-faults
returns-clause-faults c =
    let t = c.args.tree.now in
    let body = body_faults c.args.tables.now.trees.now t in
    c.in_ok-body_faults.ensures ∙ ap (λ z. z ++ body) c.in_ok-head_faults.ensures.faults ∙ append_assoc c.args.faults.now.items
    (head_faults c.args.again t) body
