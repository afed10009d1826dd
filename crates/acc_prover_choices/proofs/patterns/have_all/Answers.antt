use Rattle.std.proofs.Common.{Bool, ap, sym, ◌∙◌}
use Rattle.std.specs.Prelude.{◌&&◌}
use Rattle.acc_prover_choices.specs.Choices.{is_had}
use Rattle.acc_prover_choices.specs.Walks.{patterns_in}
use Rattle.acc_prover_choices.proofs.Numbers.{all_one_more, all_fails}
use Rattle.acc_prover_choices.proofs.patterns.have_all.Goals as goal

pub returns-then-not-is_had : goal.returns-then-not-is_had
returns-then-not-is_had c =
    sym (all_fails (is_had (patterns_in c.args.taken.now)) c.args.count c.loop-i.i c.loop-i-test.true
    (sym c.is_had.ensures ∙ c.if-not-is_had.true))

pub loop-i-preserved : goal.loop-i-preserved
loop-i-preserved c =
    let had = is_had (patterns_in c.args.taken.now) in
    all_one_more had c.loop-i.i
    ∙ (ap (λ (b : Bool). b && had c.loop-i.i) c.loop-i.invariant ∙ (sym c.is_had.ensures ∙ c.if-not-is_had.false))
