use Rattle.acc_elim_decisions.proofs.Shown.{told, told_error, refuted_is_accepted, refuted_is_unsolvable, solved_is_met}
use Rattle.acc_elim_decisions.proofs.deciding.decide.Goals as goal

pub returns : goal.returns
returns c =
    let rels = c.args.rels.now in
    let value = told rels c.searched-end.result c.ended.result c.searched-end.ensures c.ended.ensures.value in
    let accepted = refuted_is_accepted rels c.ended.result value in
    record {
      value = value;
      stops = told_error rels c.searched-end.result c.ended.result c.searched-end.ensures c.ended.ensures.stops;
      refuted = accepted;
      unsolvable = refuted_is_unsolvable rels c.ended.result accepted;
      solved = solved_is_met rels c.ended.result value;
    }
