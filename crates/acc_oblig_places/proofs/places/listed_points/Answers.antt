use Rattle.std.proofs.Common.{length, ap, arith}
use Rattle.acc_oblig_places.proofs.SmallPlaces.{few_points}
use Rattle.acc_oblig_places.proofs.places.listed_points.Goals as goal

pub add_points-requires-clause-type_fits : goal.add_points-requires-clause-type_fits
add_points-requires-clause-type_fits c = let n = ap length c.as_slice-types.ensures in let few = c.requires.rest.few_types in omega arith

pub add_points-requires-clause-few : goal.add_points-requires-clause-few
add_points-requires-clause-few c =
    few_points c.args.d.now c.requires c.as_slice-types.result.now c.as_slice-types.ensures c.loop-i.i c.loop-i-test.true
    c.index-types-i.result c.index-types-i.is
