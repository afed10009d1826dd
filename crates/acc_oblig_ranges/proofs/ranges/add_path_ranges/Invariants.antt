use Rattle.std.proofs.Common.{ℕ, drop}
use Rattle.acc_base.specs.declared.steps.Path.{Path}
use Rattle.acc_base.specs.declared.designs.Side.TheVariants.{Undo}
use Rattle.acc_oblig.specs.Drafts.{each_from}
use Rattle.acc_oblig_places.specs.SeenPlaces.{point_place}
use Rattle.acc_oblig_ranges.specs.PathRanges.{path_range, undo_ranges}
use Rattle.acc_oblig_clauses.proofs.Going.{Going}
use Rattle.acc_oblig_ranges.proofs.ranges.add_path_ranges.Given as goal

abbrev pub invariant-loop-j : goal.invariant-loop-j
invariant-loop-j l =
    let make = λ (j : ℕ) (path : Path). path_range l.d l.k l.place (record { at = l.q.at; side = Undo; path = j }) l.q.ty.now l.q.point.now
    l.q.point.now.undo path in
    Going l.fn.out l.out (each_from l.j make (drop l.j l.paths)) (undo_ranges l.d l.k l.place (point_place l.q))
