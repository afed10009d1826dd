use Rattle.std.proofs.Common.{sym, subst, ◌∙◌}
use Rattle.acc_store.specs.Rows.{SumsFit}
use Rattle.acc_journalled.proofs.Verdicts.{steady_sums}
use Rattle.acc_bench.proofs.conditions.judge.Goals as goal

pub lowest_false-requires-clause-fits : goal.lowest_false-requires-clause-fits
lowest_false-requires-clause-fits c =
    let state = c.args.state.now in
    subst SumsFit (sym (c.in-Ok.ensures ∙ c.store.ensures)) (steady_sums state.design state.world c.events-events.ensures.good.steady)
