use Rattle.std.proofs.Common.{inl, inr}
use Rattle.acc_base.specs.Plays.{Turns, IsStuck}
use Rattle.acc_player.specs.Boards.{play_of}
use Rattle.acc_player.proofs.Items.{if_stopped}
use Rattle.acc_player.proofs.Mentioning.{unreplied, open_goes, stuck_goes}
use Rattle.acc_player.proofs.Leading.{front_going}
use Rattle.acc_player.proofs.mentions.take_open_turn.Goals as goal

pub returns-in_ok-tell_turn-in-Some-clause-turn : goal.returns-in_ok-tell_turn-in-Some-clause-turn
returns-in_ok-tell_turn-in-Some-clause-turn g c =
    let p = play_of (g.P.Player.world c.args.player.now) c.args.board.now in
    let v = g.P.Player.world c.turn.new.self in
    let given = rw (c.in-Some.is, c.requires.design) at c.in_ok-turn.ensures.turns in
    record {
      told = Turns c.args.place c.in-Some.turn;
      goes = open_goes (g.P.Player.rules c.args.d.now) c.args.place c.args.t p c.in-Some.turn v c.requires.unfinished given;
      text = rw c.as_slice.ensures.value at c.in_ok-tell_turn-in-Some.ensures;
    }

pub returns-in_ok-tell_stuck-in-None-clause-turn : goal.returns-in_ok-tell_stuck-in-None-clause-turn
returns-in_ok-tell_stuck-in-None-clause-turn g c =
    let p = play_of (g.P.Player.world c.args.player.now) c.args.board.now in
    let v = g.P.Player.world c.turn.new.self in
    let given = rw (c.in-None.is, c.requires.design) at c.in_ok-turn.ensures.turns in
    record {
      told = IsStuck c.args.place;
      goes = stuck_goes (g.P.Player.rules c.args.d.now) c.args.place c.args.t p v (unreplied c.args.t p.world c.requires.unfinished) given.0
          given.1;
      text = c.in_ok-tell_stuck-in-None.ensures c.args.d.now c.args.board.now.places.items;
    }

pub returns-in_err-turn-clause-front : goal.returns-in_err-turn-clause-front
returns-in_err-turn-clause-front g c =
    let d = c.args.d.now in
    let p = play_of (g.P.Player.world c.args.player.now) c.args.board.now in
    let now = g.P.Player.world c.turn.new.self in
    if_stopped c.from_residual.result
    (front_going (g.P.Player.rules d) (g.met.P.Player.orderly d) c.args.place c.args.t p now c.requires.unfinished
    (rw c.requires.design at c.in_err-turn.ensures.err))

pub returns-in_err-tell_turn-in-Some-clause-front : goal.returns-in_err-tell_turn-in-Some-clause-front
returns-in_err-tell_turn-in-Some-clause-front g c =
    let d = c.args.d.now in
    let p = play_of (g.P.Player.world c.args.player.now) c.args.board.now in
    let now = g.P.Player.world c.turn.new.self in
    let given = rw (c.in-Some.is, c.requires.design) at c.in_ok-turn.ensures.turns in
    if_stopped c.from_residual-in_err-tell_turn-in-Some.result
    (front_going (g.P.Player.rules d) (g.met.P.Player.orderly d) c.args.place c.args.t p now c.requires.unfinished
    (inr (c.in-Some.turn, given)))

pub returns-in_err-tell_stuck-in-None-clause-front : goal.returns-in_err-tell_stuck-in-None-clause-front
returns-in_err-tell_stuck-in-None-clause-front g c =
    let d = c.args.d.now in
    let p = play_of (g.P.Player.world c.args.player.now) c.args.board.now in
    let now = g.P.Player.world c.turn.new.self in
    let given = rw (c.in-None.is, c.requires.design) at c.in_ok-turn.ensures.turns in
    if_stopped c.from_residual-in_err-tell_stuck-in-None.result
    (front_going (g.P.Player.rules d) (g.met.P.Player.orderly d) c.args.place c.args.t p now c.requires.unfinished (inl given.1))
