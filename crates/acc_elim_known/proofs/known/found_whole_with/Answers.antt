use Rattle.std.proofs.Common.{◌≡◌, ◌⊎◌, false, sym, rules}
use Rattle.std.specs.List.{list_any}
use Rattle.acc_rows.proofs.Chains.{answers_handed, answers_along, stopped_along, stopped_chain}
use Rattle.acc_elim_stages.specs.Followed.{through}
use Rattle.acc_elim_known.specs.Ends.{found_behind, is_equation}
use Rattle.acc_elim_stages.proofs.Extended.{laws}
use Rattle.acc_elim_known.proofs.Ended.{found_more, found_left}
use Rattle.acc_elim_known.proofs.known.found_whole_with.Goals as goal

pub returns-in_err-rest-clause-value : goal.returns-in_err-rest-clause-value
returns-in_err-rest-clause-value c =
    let w = c.args.whole.now in
    let rows = c.args.rows.now in
    let settled : (w.unknowns ≡ c.args.unknowns) ⊎ (list_any is_equation w.stage.rows ≡ false) = c.is_settled.ensures (search rules) in
    answers_handed _ _ _ c.from_residual.ensures.1
    (stopped_along _ _ _
    (sym (found_more rows w.unknowns c.args.unknowns w.stage (laws w.unknowns rows w.stage c.requires.known.stage) c.requires.within
    c.args.row c.requires.equal settled))
    (stopped_chain _ (through w.stage.path c.args.row) (λ o. found_behind w.stage w.unknowns o c.args.unknowns) c.in_err-rest.ensures))

pub returns-clause-value : goal.returns-clause-value
returns-clause-value c =
    let w = c.args.whole.now in
    let rows = c.args.rows.now in
    let settled : (w.unknowns ≡ c.args.unknowns) ⊎ (list_any is_equation w.stage.rows ≡ false) = c.is_settled.ensures (search rules) in
    answers_along c.found_left.result _ _
    (sym (found_left rows w.unknowns c.args.unknowns w.stage (laws w.unknowns rows w.stage c.requires.known.stage) c.requires.within
    c.args.row c.requires.equal settled c.in_ok-rest.rest c.in_ok-rest.ensures)) c.found_left.ensures.value
