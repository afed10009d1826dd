use Rattle.std.proofs.Common.{length, ap, ◌∙◌}
use Rattle.std.specs.List.{count_by}
use Rattle.acc_base.specs.Machine.{World}
use Rattle.acc_settling.specs.Openings.{is_begin}
use Rattle.acc_settling.proofs.Counts.{begins_are}
use Rattle.acc_settling.proofs.counting.transactions.Goals as goal

pub returns : goal.returns
returns g c =
    let st = c.state.result.now in
    c.begins.ensures ∙ ap (count_by is_begin) (c.as_slice.ensures ∙ c.events.ensures.events)
    ∙ begins_are st.design st.world c.events.ensures.run ∙ ap (λ (w : World). length w.transactions) c.state.ensures.state.0
