use Rattle.std.proofs.Common.{◌∙◌, ◌++◌, List, ℕ, Some, None, refl, ap}
use Rattle.acc_base.specs.Plays.{IsFull}
use Rattle.acc_player.specs.Boards.{play_of}
use Rattle.acc_player.specs.Details.{told_text, mention_text}
use Rattle.acc_player.proofs.Items.{on_ok, on_err, if_stopped}
use Rattle.acc_player.proofs.Mentioning.{mention_is}
use Rattle.acc_player.proofs.Leading.{front_begun, front_mentioned, front_opened}
use Rattle.acc_player.proofs.mentions.mention.Goals as goal

pub returns-in-Some-clause-mention : goal.returns-in-Some-clause-mention
returns-in-Some-clause-mention g c =
    let d = c.args.d.now in
    let m = g.P.Player.rules d in
    let place = c.args.place in
    let p = play_of (g.P.Player.world c.args.player.now) c.args.board.now in
    let q = play_of (g.P.Player.world c.number.new.player) c.number.new.board in
    let r = play_of (g.P.Player.world c.take_turn.new.player) c.take_turn.new.board in
    let has = rw (c.in-Some.is, c.requires.design) at c.in_ok-t.ensures.begun in
    on_ok c.take_turn.result (λ turn. record {
      told = turn.told;
      is_mention = mention_is m (g.P.Player.calls c.args.player.now) place p q (turn.told, r) (Some c.in-Some.t) has turn.goes;
      text = turn.text ∙ ap (λ (z : List ℕ). z ++ mention_text c.args.detail d (turn.told, r)) c.number.ensures.text;
    }) c.take_turn.ensures.turn

pub returns-in_ok-tell_full-in-None-clause-mention : goal.returns-in_ok-tell_full-in-None-clause-mention
returns-in_ok-tell_full-in-None-clause-mention g c =
    let d = c.args.d.now in
    let m = g.P.Player.rules d in
    let place = c.args.place in
    let p = play_of (g.P.Player.world c.args.player.now) c.args.board.now in
    let q = play_of (g.P.Player.world c.number.new.player) c.number.new.board in
    let has = rw (c.in-None.is, c.requires.design) at c.in_ok-t.ensures.begun in
    record {
      told = IsFull place;
      is_mention = mention_is m (g.P.Player.calls c.args.player.now) place p q (IsFull place, q) None has refl;
      text = c.in_ok-tell_full-in-None.ensures d q.places
          ∙ ap (λ (z : List ℕ). z ++ told_text c.args.detail d q.places (IsFull place)) c.number.ensures.text;
    }

pub returns-in_err-t-clause-front : goal.returns-in_err-t-clause-front
returns-in_err-t-clause-front g c =
    let d = c.args.d.now in
    let p = play_of (g.P.Player.world c.args.player.now) c.args.board.now in
    let now = play_of (g.P.Player.world c.number.new.player) c.number.new.board in
    if_stopped c.from_residual.result
    (front_begun (g.P.Player.rules d) (g.met.P.Player.orderly d) (g.P.Player.calls c.args.player.now) c.args.place p now
    (rw c.requires.design at c.in_err-t.ensures.front))

pub returns-in-Some-clause-front : goal.returns-in-Some-clause-front
returns-in-Some-clause-front g c =
    let d = c.args.d.now in
    let p = play_of (g.P.Player.world c.args.player.now) c.args.board.now in
    let q = play_of (g.P.Player.world c.number.new.player) c.number.new.board in
    let now = play_of (g.P.Player.world c.take_turn.new.player) c.take_turn.new.board in
    let has = rw (c.in-Some.is, c.requires.design) at c.in_ok-t.ensures.begun in
    on_err c.take_turn.result
    (front_mentioned (g.P.Player.rules d) (g.met.P.Player.orderly d) (g.P.Player.calls c.args.player.now) c.args.place p c.in-Some.t q now
    has) c.take_turn.ensures.front

pub returns-in_err-tell_full-in-None-clause-front : goal.returns-in_err-tell_full-in-None-clause-front
returns-in_err-tell_full-in-None-clause-front g c =
    let d = c.args.d.now in
    let p = play_of (g.P.Player.world c.args.player.now) c.args.board.now in
    let q = play_of (g.P.Player.world c.number.new.player) c.number.new.board in
    let has = rw (c.in-None.is, c.requires.design) at c.in_ok-t.ensures.begun in
    if_stopped c.from_residual-in_err-tell_full-in-None.result
    (front_opened (g.P.Player.rules d) (g.met.P.Player.orderly d) (g.P.Player.calls c.args.player.now) c.args.place p q None has)
