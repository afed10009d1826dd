use Rattle.std.proofs.Common.{◌∙◌, ap, sym, refl, option_copied}
use Rattle.acc_base.specs.Plays.{IsStuck, IsOver}
use Rattle.acc_player.specs.Boards.{play_of}
use Rattle.acc_player.proofs.Items.{if_stopped}
use Rattle.acc_player.proofs.Mentioning.{over_goes, stuck_goes}
use Rattle.acc_player.proofs.Leading.{before_going}
use Rattle.acc_player.proofs.mentions.take_turn.Goals as goal

pub returns-in_ok-tell_over-in-Some-clause-turn : goal.returns-in_ok-tell_over-in-Some-clause-turn
returns-in_ok-tell_over-in-Some-clause-turn g c = record {
  told = IsOver c.args.place;
  goes = over_goes (g.P.Player.rules c.args.d.now) c.args.place c.args.t (play_of (g.P.Player.world c.args.player.now) c.args.board.now)
      c.in-Some.field-0.now (sym c.reply.ensures ∙ ap option_copied c.in-Some.is);
  text = c.in_ok-tell_over-in-Some.ensures c.args.d.now c.args.board.now.places.items;
}

pub returns-in_ok-tell_stuck-in-None-clause-turn : goal.returns-in_ok-tell_stuck-in-None-clause-turn
returns-in_ok-tell_stuck-in-None-clause-turn g c =
    let p = play_of (g.P.Player.world c.args.player.now) c.args.board.now in
    record {
      told = IsStuck c.args.place;
      goes = stuck_goes (g.P.Player.rules c.args.d.now) c.args.place c.args.t p p.world
          (sym c.reply.ensures ∙ ap option_copied c.in-None.is)
          ((g.met.P.Player.orderly c.args.d.now).absent p.world c.args.t (λ u. let e = c.is_unfinished.ensures.1 u in let n =
          c.if-is_unfinished.false in absurd cc))
          refl;
      text = c.in_ok-tell_stuck-in-None.ensures c.args.d.now c.args.board.now.places.items;
    }

pub returns-in_err-tell_over-in-Some-clause-front : goal.returns-in_err-tell_over-in-Some-clause-front
returns-in_err-tell_over-in-Some-clause-front g c =
    if_stopped c.from_residual.result
    (before_going (g.P.Player.rules c.args.d.now) (g.met.P.Player.orderly c.args.d.now) c.args.place c.args.t
    (play_of (g.P.Player.world c.args.player.now) c.args.board.now))

pub returns-in_err-tell_stuck-in-None-clause-front : goal.returns-in_err-tell_stuck-in-None-clause-front
returns-in_err-tell_stuck-in-None-clause-front g c =
    if_stopped c.from_residual-in_err-tell_stuck-in-None.result
    (before_going (g.P.Player.rules c.args.d.now) (g.met.P.Player.orderly c.args.d.now) c.args.place c.args.t
    (play_of (g.P.Player.world c.args.player.now) c.args.board.now))
