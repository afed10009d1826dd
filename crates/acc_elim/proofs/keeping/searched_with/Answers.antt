use Rattle.std.proofs.Common.{◌≡◌, ◌++◌, ◌∷◌, [], length, take, Ok, ap, sym, ◌∙◌, arith}
use Rattle.acc_rows.proofs.Chains.{answers_handed, answers_along}
use Rattle.acc_elim_decisions.specs.Readings.{read_of, found_in}
use Rattle.acc_elim_decisions.proofs.ReadOn.{first_stopped, last_stopped, last_found, names_kept}
use Rattle.acc_elim.proofs.Keepings.{names_longer, came_back}
use Rattle.acc_elim.proofs.keeping.searched_with.Goals as goal

pub returns-in_err-catch_up-clause-value : goal.returns-in_err-catch_up-clause-value
returns-in_err-catch_up-clause-value c =
    answers_handed _ _ _ c.from_residual.ensures.1 (first_stopped c.args.rels.now c.args.last.now _ c.in_err-catch_up.ensures.all)

pub found_last-end-requires-clause-known : goal.found_last-end-requires-clause-known
found_last-end-requires-clause-known c =
    let reading = c.catch_up.new.self.reading in
    let few = names_longer reading.names.items c.args.last.now in
    let long = ap length c.in-Ok.ensures.names in
    (length reading.names.items, omega (arith, few, long), c.in_ok-known.ensures.value)

pub returns-in-Err-clause-value : goal.returns-in-Err-clause-value
returns-in-Err-clause-value c =
    let reading = c.catch_up.new.self.reading in
    last_stopped c.args.rels.now c.args.last.now (read_of reading) c.in_ok-place.place c.in-Err.stop c.in_ok-catch_up.ensures.all
    (c.in_ok-place.ensures ∙ (c.len.ensures ∙ reading.rows.ok.0)) c.in-Err.ensures.row

pub returns-in-Ok-clause-kept : goal.returns-in-Ok-clause-kept
returns-in-Ok-clause-kept c =
    let reading = c.catch_up.new.self.reading in
    let names = reading.names.items in
    let same : c.truncate.new.self.items ≡ names =
    c.truncate.ensures.items
    ∙ ((λ i. take ((c.len-count.ensures ∙ reading.names.ok.0) i) (c.in-Ok.ensures.names i)) ∙ names_kept names c.args.last.now)
    in
    record {
      read = record {
        few = c.in_ok-catch_up.ensures.kept.read.few;
        first = c.in_ok-catch_up.ensures.kept.read.first
            ∙ ap (λ us. Ok (us, reading.rows.items)) (sym same);
      };
      known = came_back reading.rows.items (length names) (length c.truncate.new.self.items) c.in_ok-known.known c.found_last-end.new.slot
          (ap length (sym same)) c.in_ok-known.ensures.value c.found_last-end.ensures.kept;
    }

pub returns-in-Ok-clause-value : goal.returns-in-Ok-clause-value
returns-in-Ok-clause-value c =
    let reading = c.catch_up.new.self.reading in
    answers_along c.found_last-end.result _ _
    (ap (λ us. found_in (us, reading.rows.items ++ c.in-Ok.row ∷ [])) c.in-Ok.ensures.names
    ∙ last_found c.args.rels.now c.args.last.now (read_of reading) c.in_ok-place.place c.in-Ok.row c.in_ok-catch_up.ensures.all
    (c.in_ok-place.ensures ∙ (c.len.ensures ∙ reading.rows.ok.0)) c.in-Ok.ensures.row) c.found_last-end.ensures.value
