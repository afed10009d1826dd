use Rattle.std.proofs.Common.{◌≡◌, ◌∙◌, Some, length, ap, subst, rules}
use Rattle.acc_base.specs.declared.designs.Design.{Design}
use Rattle.acc_base.specs.Machine.{world}
use Rattle.acc_base.specs.Plays.{Play, opening}
use Rattle.acc_player.specs.Boards.{play_of}
use Rattle.acc_player.specs.Playing.{Playing}
use Rattle.acc_play.proofs.Telling.{tells_play}
use Rattle.acc_play.proofs.plays.play.Goals as goal

pub returns : goal.returns
returns c =
    let d = c.args.d.now in
    let calls = c.args.calls.now in
    let b = c.mention_all.new.board in
    let w = c.mention_all.new.player.world in
    let board = c.in_ok-board.board in
    let first : Play = play_of c.new-2.result.world board in
    let opens : first ≡ opening calls =
    λ i. record { world = c.new-2.ensures.start i; numbers = c.in_ok-board.ensures.numbers i; places = c.in_ok-board.ensures.places i } in
    let design : c.mention_all.new.player.design ≡ d = search rules in
    let history : c.into_parts-history.result.1 ≡ w.events = search rules in
    let run =
    subst (λ (x : Design). world x w.events ≡ Some w) design
    (subst (λ (p : Playing). world p.design p.world.events ≡ Some p.world) c.player.view_is c.into_parts-history.ensures.run.run) in
    tells_play d calls c.args.order.now b.text.items c.push_replies.new.text.items c.push_events.new.out.items
    c.into_parts-history.result.1 first (play_of w b) opens c.in-Ok.ensures.played
    (c.mention_all.ensures.board.numbers ∙ ap length c.mention_all.ensures.calls)
    (rw c.as_slice.ensures.value at c.in_ok-push_replies.ensures) history run
    (rw c.len.ensures at c.in_ok-push_events.ensures.ok)
