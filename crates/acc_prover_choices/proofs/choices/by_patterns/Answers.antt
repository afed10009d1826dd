use Rattle.std.proofs.Common.{subst}
use Rattle.acc_prover_choices.specs.Parts.{AnswersListing}
use Rattle.acc_prover_choices.proofs.WalkedValues.{walked_is}
use Rattle.acc_prover_choices.proofs.choices.by_patterns.Goals as goal

pub returns : goal.returns
returns c =
    subst (λ l. AnswersListing c.walked.result l) (walked_is c.args.targets.now c.args.count c.args.patterns.now) c.walked.ensures
