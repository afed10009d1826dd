use Rattle.std.proofs.Common.{◌≡◌, ◌∙◌, length, ap, subst}
use Rattle.acc_engine.specs.Keeping.{Journalled}
use Rattle.acc_settling.specs.Workers.{HasBegunFirst}
use Rattle.acc_settling.proofs.Working.{worked_board, worked_play}
use Rattle.acc_settling.proofs.finishing.board_of_begun.Goals as goal

pub returns-clause-board : goal.returns-clause-board
returns-clause-board g c =
    let many = c.places.ensures ∙ ap (λ (e : Journalled g.row.D.Denot). length e.calls) c.player.view_is in
    let counted =
    subst (λ (e : Journalled g.row.D.Denot). (first : HasBegunFirst e) → c.begun_places.result ≡ first.count) c.player.view_is
    c.begun_places.ensures.count in
    worked_board c.args.before c.args.player.now c.in_ok-board.board c.places.result c.begun_places.result many
    c.in_ok-board.ensures.numbers c.in_ok-board.ensures.places c.requires.begun (counted c.requires.begun)

pub returns-clause-worked : goal.returns-clause-worked
returns-clause-worked g c = λ p worked.
    let many = c.places.ensures ∙ ap (λ (e : Journalled g.row.D.Denot). length e.calls) c.player.view_is in
    let counted =
    subst (λ (e : Journalled g.row.D.Denot). (first : HasBegunFirst e) → c.begun_places.result ≡ first.count) c.player.view_is
    c.begun_places.ensures.count in
    worked_play c.args.before c.args.player.now c.in_ok-board.board c.places.result c.begun_places.result many
    c.in_ok-board.ensures.numbers c.in_ok-board.ensures.places p worked (counted worked.begun)
