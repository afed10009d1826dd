use Rattle.std.proofs.Common.{◌≡◌, ◌∷◌, map, take}
use Rattle.acc_parse_names.proofs.types.add_points.Given as goal

abbrev pub invariant-loop-point : goal.invariant-loop-point
invariant-loop-point l = l.points ≡ l.tree.first.name ∷ map (λ p. p.name) (take l.point-index l.tree.others)
