use Rattle.acc_oblig_assumptions.proofs.Counted.{bounds_more, grown_by}
use Rattle.acc_oblig_assumptions.proofs.settings.add_all_bounds.Goals as goal

pub loop-i-preserved : goal.loop-i-preserved
loop-i-preserved c =
    grown_by _ _ _ _ _ _ c.loop-i.invariant c.in_ok-add_value_bounds.ensures (bounds_more c.args.from c.loop-i.i)
