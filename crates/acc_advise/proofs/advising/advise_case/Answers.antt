use Rattle.acc_advise.proofs.Nothing.{free_advice, needs_entry}
use Rattle.acc_advise.proofs.advising.advise_case.Goals as goal

pub returns-in-Ok-Proved : goal.returns-in-Ok-Proved
returns-in-Ok-Proved g c =
    free_advice c.args.case.now c.in-Ok-Proved.field-0 c.in-Ok-Proved.proofs c.in-Ok-Proved.field-0-is c.in-Ok-Proved.ensures

pub keyed_advice-requires-clause-narrow : goal.keyed_advice-requires-clause-narrow
keyed_advice-requires-clause-narrow g c = c.in-Ok-Stopped.ensures.1

pub keyed_advice-requires-clause-needed : goal.keyed_advice-requires-clause-needed
keyed_advice-requires-clause-needed g c =
    let arm = c.in-Ok-Stopped in
    needs_entry c.args.case.now arm.field-0 arm.field-0-0 arm.field-0-1 arm.field-0-is arm.ensures
