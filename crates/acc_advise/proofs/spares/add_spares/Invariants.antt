use Rattle.std.proofs.Common.{drop}
use Rattle.acc_oblig.specs.Drafts.{each_from}
use Rattle.acc_oblig_places.specs.ManyEntries.{with_entries}
use Rattle.acc_oblig_places.specs.SeenPlaces.{point_place}
use Rattle.acc_oblig_clauses.proofs.Going.{Going}
use Rattle.acc_advise.specs.TriedDesigns.{clause_spares, spares_of}
use Rattle.acc_advise.proofs.spares.add_spares.Given as goal

abbrev pub invariant-loop-k : goal.invariant-loop-k
invariant-loop-k l =
    let d = with_entries l.d l.entries in
    let h = point_place l.held in
    let s = point_place l.taken.place in
    let step = l.taken.step.now in
    Going l.fn.out l.out (each_from l.k (clause_spares d l.taken.side h s step) (drop l.k l.clauses)) (spares_of d l.taken.side h s step)
