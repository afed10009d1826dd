use Rattle.std.proofs.Common.{◌≡◌, drop}
use Rattle.acc_prover_choices.specs.Parts.{with_firsts}
use Rattle.acc_prover_choices.specs.Targets.{same_target, targets_in}
use Rattle.acc_prover_choices.proofs.targets.add_form.Given as goal

abbrev pub invariant-loop-term : goal.invariant-loop-term
invariant-loop-term l = with_firsts same_target l.targets.items (targets_in (drop l.term-index l.form.terms)) ≡ with_firsts same_target
    l.fn.targets.items (targets_in l.form.terms)
