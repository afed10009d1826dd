use Rattle.std.proofs.Common.{drop}
use Rattle.acc_oblig.specs.Drafts.{each_from}
use Rattle.acc_oblig_places.specs.ManyEntries.{with_entries}
use Rattle.acc_oblig_places.specs.SeenPlaces.{point_place}
use Rattle.acc_oblig_clauses.proofs.Going.{Going}
use Rattle.acc_advise.specs.TriedDesigns.{clause_spares}
use Rattle.acc_advise.proofs.StepSpares.{path_spares}
use Rattle.acc_advise.proofs.spares.add_clause_spares.Given as goal

abbrev pub invariant-loop-j : goal.invariant-loop-j
invariant-loop-j l =
    let d = with_entries l.d l.entries in
    let h = point_place l.held in
    let s = point_place l.taken.place in
    let step = l.taken.step.now in
    Going l.fn.out l.out (each_from l.j (path_spares d l.taken.side h s step l.k l.c) (drop l.j l.paths))
    (clause_spares d l.taken.side h s step l.k l.c)
