use Rattle.std.proofs.Common.{◌<◌, ◌-◌, ◌∷◌, ◌++◌, [], length, Some, None, arith, rules, refl, sym, ap, subst, ◌∙◌, set, length-set}
use Rattle.std.proofs.lemmas.Option.{slice_get_read}
use Rattle.acc_base.specs.Machine.{World}
use Rattle.acc_base.specs.Plays.{Play}
use Rattle.acc_player.specs.Boards.{play_of, IsAfterBegin}
use Rattle.acc_player.specs.Ways.{PlayPrecedesEach}
use Rattle.acc_player.proofs.Items.{if_stopped, if_any, set_here, set_keeps, set_other}
use Rattle.acc_player.proofs.Mentioning.{begins_here, cannot_begin, could_start}
use Rattle.acc_player.proofs.Leading.{before_begin, behind_begin}
use Rattle.acc_player.proofs.mentions.number.Goals as goal

pub returns-in_ok-push-in-Some-2-clause-begun : goal.returns-in_ok-push-in-Some-2-clause-begun
returns-in_ok-push-in-Some-2-clause-begun g c =
    let old = c.args.player.now in
    let b = c.args.board.now in
    let calls = g.P.Player.calls old in
    let place = c.args.place in
    let above : 0 < place = omega (arith, c.requires.place.0) in
    let within : place - 1 < length calls = omega (arith, c.requires.place.0, c.requires.place.1) in
    let number_at = slice_get_read b.numbers.items (length calls) (place - 1) None (sym c.requires.board.numbers) within (search rules) in
    begins_here (g.P.Player.rules (g.P.Player.design old)) calls place (play_of (g.P.Player.world old) b) above _ c.in-Some-2.t number_at
    (rw c.in-Some-2.is at c.in_ok-t.ensures.begins) refl c.in_ok-push-in-Some-2.ensures.items

pub returns-in_ok-push-in-Some-2-clause-board : goal.returns-in_ok-push-in-Some-2-clause-board
returns-in_ok-push-in-Some-2-clause-board g c =
    let numbers = c.args.board.now.numbers.items in
    let place = c.args.place - 1 in
    let t = c.in-Some-2.t in
    record {
      numbers = length-set numbers place (Some t) ∙ c.requires.board.numbers ∙ sym (ap length c.begin_at.ensures.calls);
      unbegun = λ at h.
          c.begin_at.ensures.others at (set_other numbers place t at h) (c.requires.board.unbegun at (set_keeps numbers place t at h));
    }

pub returns-in_err-push-in-Some-2-clause-board : goal.returns-in_err-push-in-Some-2-clause-board
returns-in_err-push-in-Some-2-clause-board g c =
    let numbers = c.args.board.now.numbers.items in
    let place = c.args.place - 1 in
    let t = c.in-Some-2.t in
    record {
      numbers = length-set numbers place (Some t) ∙ c.requires.board.numbers ∙ sym (ap length c.begin_at.ensures.calls);
      unbegun = λ at h.
          c.begin_at.ensures.others at (set_other numbers place t at h) (c.requires.board.unbegun at (set_keeps numbers place t at h));
    }

pub returns-in_ok-push-in-Some-2-clause-here : goal.returns-in_ok-push-in-Some-2-clause-here
returns-in_ok-push-in-Some-2-clause-here g c =
    let numbers = c.args.board.now.numbers.items in
    let place = c.args.place in
    let within : place - 1 < length numbers = omega (arith, c.requires.place.0, c.requires.place.1, c.requires.board.numbers) in
    set_here numbers (place - 1) c.in-Some-2.t within

pub returns-in_ok-push-in-Some-2-clause-kept : goal.returns-in_ok-push-in-Some-2-clause-kept
returns-in_ok-push-in-Some-2-clause-kept g c = λ k h. set_keeps c.args.board.now.numbers.items (c.args.place - 1) c.in-Some-2.t k h

pub returns-in_err-push-in-Some-2-clause-kept : goal.returns-in_err-push-in-Some-2-clause-kept
returns-in_err-push-in-Some-2-clause-kept g c = λ k h. set_keeps c.args.board.now.numbers.items (c.args.place - 1) c.in-Some-2.t k h

pub returns-in-None-clause-begun : goal.returns-in-None-clause-begun
returns-in-None-clause-begun g c =
    let old = c.args.player.now in
    let b = c.args.board.now in
    let calls = g.P.Player.calls old in
    let place = c.args.place in
    let above : 0 < place = omega (arith, c.requires.place.0) in
    let within : place - 1 < length calls = omega (arith, c.requires.place.0, c.requires.place.1) in
    let number_at = slice_get_read b.numbers.items (length calls) (place - 1) None (sym c.requires.board.numbers) within (search rules) in
    cannot_begin (g.P.Player.rules (g.P.Player.design old)) calls place (play_of (g.P.Player.world old) b) above
    (g.P.Player.world c.begin_at.new.self) number_at (rw c.in-None.is at c.in_ok-t.ensures.begins)

pub returns-in_err-t-clause-front : goal.returns-in_err-t-clause-front
returns-in_err-t-clause-front g c =
    let old = c.args.player.now in
    let b = c.args.board.now in
    let d = g.P.Player.design old in
    let m = g.P.Player.rules d in
    let calls = g.P.Player.calls old in
    let p = play_of (g.P.Player.world old) b in
    if_stopped c.from_residual.result
    (subst (λ (w : World). PlayPrecedesEach (play_of w b) (IsAfterBegin m calls c.args.place p)) (sym c.in_err-t.ensures.err)
    (before_begin m (g.met.P.Player.orderly d) calls c.args.place p))

pub returns-in_err-push-in-Some-2-clause-front : goal.returns-in_err-push-in-Some-2-clause-front
returns-in_err-push-in-Some-2-clause-front g c =
    let old = c.args.player.now in
    let new = c.begin_at.new.self in
    let b = c.args.board.now in
    let d = g.P.Player.design old in
    let m = g.P.Player.rules d in
    let calls = g.P.Player.calls old in
    let place = c.args.place in
    let t = c.in-Some-2.t in
    let above : 0 < place = omega (arith, c.requires.place.0) in
    let within : place - 1 < length calls = omega (arith, c.requires.place.0, c.requires.place.1) in
    let number_at = slice_get_read b.numbers.items (length calls) (place - 1) None (sym c.requires.board.numbers) within (search rules) in
    let numbers = set b.numbers.items (place - 1) (Some t) in
    let q : Play = record { world = g.P.Player.world new; numbers = numbers; places = b.places.items ++ place ∷ [] } in
    let now : Play = record { world = g.P.Player.world new; numbers = numbers; places = c.push.new.self.items } in
    if_stopped c.from_residual-in_err-push-in-Some-2.result
    (behind_begin m (g.met.P.Player.orderly d) calls place (play_of (g.P.Player.world old) b) q now (Some t)
    (begins_here m calls place (play_of (g.P.Player.world old) b) above q t number_at (rw c.in-Some-2.is at c.in_ok-t.ensures.begins) refl
    refl) refl refl)

pub returns-in_err-push-in-Some-2-clause-room : goal.returns-in_err-push-in-Some-2-clause-room
returns-in_err-push-in-Some-2-clause-room g c =
    let old = c.args.player.now in
    let d = g.P.Player.design old in
    if_any c.from_residual-in_err-push-in-Some-2.result (λ stop memory.
    could_start (g.P.Player.rules d) (g.met.P.Player.orderly d) (g.P.Player.calls old) c.args.place (g.P.Player.world old)
    (g.P.Player.world c.begin_at.new.self) c.in-Some-2.t (rw c.in-Some-2.is at c.in_ok-t.ensures.begins))
