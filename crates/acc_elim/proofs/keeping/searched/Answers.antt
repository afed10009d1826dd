use Rattle.std.proofs.Common.{length}
use Rattle.acc_rows.proofs.Chains.{answers_handed, answers_along}
use Rattle.acc_elim_known.proofs.Knowns.{has_point}
use Rattle.acc_elim_decisions.specs.Readings.{read_of}
use Rattle.acc_elim_decisions.proofs.ReadOn.{searched_read, searched_stopped}
use Rattle.acc_elim.proofs.keeping.searched.Goals as goal

pub found-end-requires : goal.found-end-requires
found-end-requires c =
    let reading = c.catch_up.new.self.reading in
    has_point reading.rows.items (length reading.names.items) c.in_ok-known.known c.in_ok-known.ensures.value

pub returns-in_err-catch_up-clause-value : goal.returns-in_err-catch_up-clause-value
returns-in_err-catch_up-clause-value c =
    answers_handed _ _ _ c.from_residual.ensures.1 (searched_stopped c.args.rels.now _ c.in_err-catch_up.ensures.all)

pub returns-clause-kept : goal.returns-clause-kept
returns-clause-kept c =
    let reading = c.catch_up.new.self.reading in
    record {
      read = c.in_ok-catch_up.ensures.kept.read;
      known = c.found-end.ensures.kept reading.rows.items (length reading.names.items) c.in_ok-known.ensures.value;
    }

pub returns-clause-value : goal.returns-clause-value
returns-clause-value c =
    let reading = c.catch_up.new.self.reading in
    answers_along c.found-end.result _ _ (searched_read c.args.rels.now (read_of reading) c.in_ok-catch_up.ensures.all)
    (c.found-end.ensures.value reading.rows.items (length reading.names.items) c.in_ok-known.ensures.value)
