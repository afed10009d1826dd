use Rattle.std.proofs.Common.{subst}
use Rattle.acc_prover_choices.specs.Parts.{AnswersListing}
use Rattle.acc_prover_choices.specs.Targets.{targets_of}
use Rattle.acc_inst.proofs.Collected.{instances_are}
use Rattle.acc_inst.proofs.instances.instances_of.Goals as goal

pub returns : goal.returns
returns c =
    let q = c.args.sequent.now in
    subst (λ l. AnswersListing c.walked.result l) (instances_are (targets_of q) q.vars c.args.hints.now q.hyps) c.walked.ensures
