use Rattle.acc_oblig_places.proofs.SmallPlaces.{paths_small}
use Rattle.acc_oblig_places.proofs.places.paths_of.Goals as goal

pub returns-clause-small : goal.returns-clause-small
returns-clause-small c = paths_small c.args.points.now c.in_ok-paths.paths.items c.requires c.in_ok-paths.ensures
