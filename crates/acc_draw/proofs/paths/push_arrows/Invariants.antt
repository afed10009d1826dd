-- What is written so far, and then the points that are left, is all of it.
use Rattle.acc_page.specs.Written.{Owes}
use Rattle.std.proofs.Common.{drop}
use Rattle.std.specs.List.{flat_map}
use Rattle.acc_draw.specs.Pictures.{point_arrows}
use Rattle.acc_draw.proofs.paths.push_arrows.Given as goal

abbrev pub invariant-loop-point : goal.invariant-loop-point
invariant-loop-point l =
    Owes l.fn.out l.out (flat_map (point_arrows l.ty) (drop l.point-index l.points)) (flat_map (point_arrows l.ty) l.points)
