use Rattle.std.proofs.Common.{◌∙◌}
use Rattle.acc_oblig_places.specs.ManyEntries.{with_entries}
use Rattle.acc_advise.specs.TriedDesigns.{spares_in}
use Rattle.acc_advise.proofs.Trying.{tries_all}
use Rattle.acc_advise.proofs.trials.tried.Goals as goal

pub returns-in-Ok : goal.returns-in-Ok
returns-in-Ok g c =
    let case = c.args.case.now in
    tries_all case (spares_in (with_entries case.d.now c.args.entries.now) case.question) c.as_slice.result.now c.searched_or.result
    (c.as_slice.ensures ∙ c.in-Ok.ensures.0) c.in-Ok.ensures.1 c.searched_or.ensures.tries c.searched_or.ensures.memory
