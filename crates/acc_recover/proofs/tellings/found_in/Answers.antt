use Rattle.std.proofs.Common.{◌∙◌, ap, length}
use Rattle.acc_recover.proofs.Compensating.{all_compensated}
use Rattle.acc_recover.proofs.tellings.found_in.Goals as goal

pub returns-clause-compensated : goal.returns-clause-compensated
returns-clause-compensated g c events last r =
    ap length c.unfinished.ensures.frames ∙ all_compensated c.args.state.now.design c.args.state.now.world events last r
