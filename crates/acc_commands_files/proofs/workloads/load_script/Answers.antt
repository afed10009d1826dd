use Rattle.std.proofs.Common.{sym, ◌∙◌}
use Rattle.acc_commands_files.proofs.Scales.{scale_fits}
use Rattle.acc_commands_files.proofs.workloads.load_script.Goals as goal

pub load-requires : goal.load-requires
load-requires c = scale_fits c.args.scale (sym c.is_fit.ensures ∙ c.if-is_fit.true)
