use Rattle.acc_prover_branch.specs.Known.{known_of}
use Rattle.acc_prover_course.proofs.Opening.{opened}
use Rattle.acc_prover_course.proofs.branches.+branch.Goals as goal

pub branch-returns-in-Some : goal.branch-returns-in-Some
branch-returns-in-Some t c =
    opened c.args.design.now c.args.sequent.now c.args.made.now c.args.splits.now c.form-item.result
    (known_of c.args.known.now, c.args.nodes.now.items) (known_of c.closing.new.known, c.closing.new.nodes.items)
    c.in_ok-closing-in-len1-up.field-0 c.in-Some.field-0 c.three.result c.three.new.nodes.items c.in-len1-up.len_at_least c.form-item.is
    c.in_ok-closing-in-len1-up.ensures c.in-Some.is c.three.ensures
