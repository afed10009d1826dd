use Rattle.std.proofs.Common.{◌∙◌}
use Rattle.std.specs.List.{fold}
use Rattle.acc_elim_readings.specs.Readings.{with_rel}
use Rattle.acc_elim_decisions.specs.Readings.{read_of}
use Rattle.acc_elim_decisions.proofs.ReadOn.{rest_is, names_rest}
use Rattle.acc_elim_decisions.proofs.reading.unknowns.Goals as goal

pub returns : goal.returns
returns c =
    let rels = c.args.rels.now in
    let n = c.args.reading.now.count in
    c.in_ok-add_unknowns.ensures
    ∙ ((λ i. fold with_rel ((c.in_ok-names.ensures ∙ c.as_slice.ensures.value) i) (rest_is rels n i))
    ∙ names_rest rels n (read_of c.args.reading.now) c.requires.first)
