use Rattle.std.proofs.Common.{subst, ◌++◌, ◌∷◌, []}
use Rattle.acc_advise.specs.Steps.{Tells}
use Rattle.acc_advise.proofs.Growing.{added_if, stopped_if}
use Rattle.acc_advise.proofs.passes.try_pair.Goals as goal

pub returns-in-Ok-Proved : goal.returns-in-Ok-Proved
returns-in-Ok-Proved g c =
    added_if c.args.case.now c.args.pair c.args.grown.now c.add_pair.new.grown c.add_pair.result c.in-Ok-Proved.proofs c.args.left.now
    (subst (Tells c.args.case.now (c.args.grown.now.pairs ++ c.args.pair ∷ [])) c.in-Ok-Proved.field-0-is c.in-Ok-Proved.ensures)
    c.add_pair.ensures.pairs c.add_pair.ensures.proofs

pub returns-in-Ok-Stopped : goal.returns-in-Ok-Stopped
returns-in-Ok-Stopped g c =
    stopped_if c.args.case.now c.args.pair c.args.grown.now c.keep.result c.args.left.now c.keep.new.left c.in-Ok-Stopped.origin
    c.in-Ok-Stopped.why c.len-among.result
    (subst (Tells c.args.case.now (c.args.grown.now.pairs ++ c.args.pair ∷ [])) c.in-Ok-Stopped.field-0-is c.in-Ok-Stopped.ensures)
    c.len-among.ensures c.keep.ensures
