use Rattle.acc_oblig_places.proofs.Small.{design_small}
use Rattle.acc_oblig_points.proofs.begins.add_begins.Goals as goal

pub add_first_begins-requires : goal.add_first_begins-requires
add_first_begins-requires c = design_small c.args.d.now c.requires
