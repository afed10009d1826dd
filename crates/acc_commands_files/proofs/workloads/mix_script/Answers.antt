use Rattle.std.proofs.Common.{sym, ◌∙◌}
use Rattle.acc_commands_files.proofs.Scales.{scale_fits, mix_scale, mix_fits}
use Rattle.acc_commands_files.proofs.workloads.mix_script.Goals as goal

pub mix-requires-clause-scale : goal.mix-requires-clause-scale
mix-requires-clause-scale c = scale_fits c.args.asked.scale (mix_scale c.args.asked (sym c.is_fit.ensures ∙ c.if-is_fit.true))

pub mix-requires-clause-mix : goal.mix-requires-clause-mix
mix-requires-clause-mix c = mix_fits c.args.asked (sym c.is_fit.ensures ∙ c.if-is_fit.true)
