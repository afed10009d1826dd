use Rattle.std.proofs.Common.{◌≡◌, ◌∙◌, length, sym, ap, subst}
use Rattle.acc_base.specs.declared.designs.Design.{Design}
use Rattle.acc_base.specs.Lines.{mention_line}
use Rattle.acc_base.specs.Plays.{Play, opening}
use Rattle.acc_player.specs.Boards.{play_of}
use Rattle.acc_player.specs.Schedules.{IsRun}
use Rattle.acc_lock_rules.specs.LockRules.{with_locks}
use Rattle.acc_schedule.proofs.Closing.{if_ok}
use Rattle.acc_schedule.proofs.Closing.{tells_schedule}
use Rattle.acc_schedule.proofs.schedules.schedule.Goals as goal

pub returns-in-Ok : goal.returns-in-Ok
returns-in-Ok c =
    let d = c.args.accepted.now in
    let calls = c.args.calls.now in
    let order = c.args.order.now in
    let board = c.in_ok-board.board in
    let first : Play = play_of c.in_ok-state.state.world board in
    let opens : first ≡ opening calls =
    λ i. record { world = c.in_ok-state.ensures.start i; numbers = c.in_ok-board.ensures.numbers i; places = c.in_ok-board.ensures.places i } in
    let p = c.run.new.player in
    let b = c.run.new.board in
    let design : p.design ≡ d = c.run.ensures.design ∙ c.in_ok-state.ensures.design in
    let ran =
    subst (λ (x : Design). IsRun (with_locks x) (mention_line x) calls first order b.text.items (play_of p.world b)) c.design-d.ensures.design
    c.in-Ok.ensures.runs in
    if_ok c.close.result (λ s closed.
    tells_schedule d calls order first p b s opens design (c.run.ensures.board.numbers ∙ ap length c.run.ensures.calls) ran closed)
    c.close.ensures
