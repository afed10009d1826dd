use Rattle.acc_oblig_places.proofs.SmallPlaces.{points_small}
use Rattle.acc_oblig_places.proofs.places.points_of.Goals as goal

pub returns-clause-small : goal.returns-clause-small
returns-clause-small c = points_small c.args.d.now c.requires c.in_ok-points.points.items c.in_ok-points.ensures
