use Rattle.std.proofs.Common.{length, ap, subst, ◌∙◌}
use Rattle.acc_machine.specs.Kept.{IsKept}
use Rattle.acc_engine.specs.Keeping.{Journalled}
use Rattle.acc_settling.proofs.Acks.{all_acked}
use Rattle.acc_settling.proofs.Boards.{fresh_board, opens_play}
use Rattle.acc_settling.proofs.openings.opening.Goals as goal

pub returns-in_err-board-clause-acked : goal.returns-in_err-board-clause-acked
returns-in_err-board-clause-acked g c =
    let kept = subst (λ (e : Journalled g.row.D.Denot). IsKept e.design e.state) c.player.view_is c.player.invariant.kept in
    all_acked c.args.player.now kept c.requires.fresh.settled

pub returns-clause-acked : goal.returns-clause-acked
returns-clause-acked g c =
    let kept = subst (λ (e : Journalled g.row.D.Denot). IsKept e.design e.state) c.player.view_is c.player.invariant.kept in
    all_acked c.args.player.now kept c.requires.fresh.settled

pub returns-clause-board : goal.returns-clause-board
returns-clause-board g c =
    let many = c.places.ensures ∙ ap (λ (e : Journalled g.row.D.Denot). length e.calls) c.player.view_is in
    fresh_board c.args.player.now c.in_ok-board.board c.places.result c.requires.fresh many c.in_ok-board.ensures.numbers

pub returns-clause-opens : goal.returns-clause-opens
returns-clause-opens g c =
    let e = c.args.player.now in
    let many = c.places.ensures ∙ ap (λ (j : Journalled g.row.D.Denot). length j.calls) c.player.view_is in
    let before = c.transactions-before.ensures ∙ ap (λ (j : Journalled g.row.D.Denot). length j.state.transactions) c.player.view_is in
    opens_play e.state e.calls c.in_ok-board.board c.places.result c.transactions-before.result many before c.in_ok-board.ensures.numbers
    c.in_ok-board.ensures.places
