use Rattle.std.proofs.Common.{sym, ◌∙◌}
use Rattle.std.proofs.lemmas.Result.{IfOk-weaker}
use Rattle.acc_commands_files.proofs.MixCalls.{places_of_calls}
use Rattle.acc_commands_files.proofs.Scales.{scale_fits, mix_scale, mix_fits}
use Rattle.acc_commands_files.proofs.benches.mix_order.Goals as goal

pub order-requires-clause-scale : goal.order-requires-clause-scale
order-requires-clause-scale c = scale_fits c.args.asked.scale (mix_scale c.args.asked (sym c.is_fit.ensures ∙ c.if-is_fit.true))

pub order-requires-clause-mix : goal.order-requires-clause-mix
order-requires-clause-mix c = mix_fits c.args.asked (sym c.is_fit.ensures ∙ c.if-is_fit.true)

pub returns-then-is_fit-clause-places : goal.returns-then-is_fit-clause-places
returns-then-is_fit-clause-places c =
    IfOk-weaker c.order.result _ _ (λ numbers. places_of_calls c.args.asked numbers (sym c.is_fit.ensures ∙ c.if-is_fit.true))
    c.order.ensures.places
