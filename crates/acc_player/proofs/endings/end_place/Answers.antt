use Rattle.std.proofs.Common.{◌≡◌, ◌<◌, ◌-◌, length, Some, None, sym, ◌∙◌, subst, arith, rules}
use Rattle.std.proofs.lemmas.Option.{slice_get_read, same_Some, none-some}
use Rattle.acc_base.specs.declared.designs.Design.{Design}
use Rattle.acc_player.specs.Boards.{play_of}
use Rattle.acc_player.specs.Endings.{EndsAll}
use Rattle.acc_player.specs.Ways.{PrecedesEach}
use Rattle.acc_player.proofs.Ends.{full_stays, begun_ends, cannot_so}
use Rattle.acc_player.proofs.Items.{on_ok, on_err, if_stopped, unnumbered}
use Rattle.acc_player.proofs.Wholes.{front_place, front_ended}
use Rattle.acc_player.proofs.endings.end_place.Goals as goal

pub returns-in-Some-clause-ends : goal.returns-in-Some-clause-ends
returns-in-Some-clause-ends g c =
    let old = c.args.player.now in
    let m = g.P.Player.rules (g.P.Player.design old) in
    let calls = g.P.Player.calls old in
    let mid = g.P.Player.world c.number.new.player in
    let new = g.P.Player.world c.end_all.new.player in
    let place = c.args.place in
    let b = c.args.board.now in
    let above : 0 < place = omega (arith, c.requires.place.0) in
    let within : place - 1 < length calls = omega (arith, c.requires.place.0, c.requires.place.1) in
    let none : c.index.result.now ≡ None = search rules in
    let number_at = slice_get_read b.numbers.items (length calls) (place - 1) None (sym c.requires.board.numbers) within (search rules) in
    let begun = rw c.in-Some.is at c.in_ok-number.ensures.begun in
    on_ok c.end_all.result (λ ends.
    begun_ends m calls place (play_of (g.P.Player.world old) b) (play_of mid c.number.new.board) c.in-Some.field-0 new above number_at begun
    (subst (λ (d : Design). EndsAll (g.P.Player.rules d) mid new) c.number.ensures.design ends)) c.end_all.ensures.ends

pub returns-in-Some-clause-full : goal.returns-in-Some-clause-full
returns-in-Some-clause-full g c =
    let here = rw c.in-Some.is at c.in_ok-number.ensures.here in
    on_ok c.end_all.result
    (λ over unbegun. absurd (none-some c.in-Some.field-0 (same_Some None (Some c.in-Some.field-0) (sym unbegun ∙ here))))
    c.end_all.ensures.over

pub returns-in_err-number-clause-front : goal.returns-in_err-number-clause-front
returns-in_err-number-clause-front g c =
    let old = c.args.player.now in
    let d = g.P.Player.design old in
    let calls = g.P.Player.calls old in
    let place = c.args.place in
    let b = c.args.board.now in
    let p = play_of (g.P.Player.world old) b in
    let above : 0 < place = omega (arith, c.requires.place.0) in
    let within : place - 1 < length calls = omega (arith, c.requires.place.0, c.requires.place.1) in
    let none : c.index.result.now ≡ None = search rules in
    let number_at = slice_get_read b.numbers.items (length calls) (place - 1) None (sym c.requires.board.numbers) within (search rules) in
    if_stopped c.from_residual.result
    (front_place (g.P.Player.rules d) (g.met.P.Player.orderly d) calls place p
    (play_of (g.P.Player.world c.number.new.player) c.number.new.board) (unnumbered p place above number_at) c.in_err-number.ensures.front)

pub returns-in-Some-clause-front : goal.returns-in-Some-clause-front
returns-in-Some-clause-front g c =
    let old = c.args.player.now in
    let d = g.P.Player.design old in
    let calls = g.P.Player.calls old in
    let mid = g.P.Player.world c.number.new.player in
    let new = g.P.Player.world c.end_all.new.player in
    let place = c.args.place in
    let b = c.args.board.now in
    let p = play_of (g.P.Player.world old) b in
    let above : 0 < place = omega (arith, c.requires.place.0) in
    let within : place - 1 < length calls = omega (arith, c.requires.place.0, c.requires.place.1) in
    let none : c.index.result.now ≡ None = search rules in
    let number_at = slice_get_read b.numbers.items (length calls) (place - 1) None (sym c.requires.board.numbers) within (search rules) in
    let begun = rw c.in-Some.is at c.in_ok-number.ensures.begun in
    on_err c.end_all.result (λ front.
    front_ended (g.P.Player.rules d) (g.met.P.Player.orderly d) calls place c.in-Some.field-0 p (play_of mid c.number.new.board) new
    (unnumbered p place above number_at) begun
    (subst (λ (x : Design). PrecedesEach new (EndsAll (g.P.Player.rules x) mid)) c.number.ensures.design front)) c.end_all.ensures.front

pub returns-in-None-clause-ends : goal.returns-in-None-clause-ends
returns-in-None-clause-ends g c =
    let old = c.args.player.now in
    let calls = g.P.Player.calls old in
    let place = c.args.place in
    let b = c.args.board.now in
    let above : 0 < place = omega (arith, c.requires.place.0) in
    let within : place - 1 < length calls = omega (arith, c.requires.place.0, c.requires.place.1) in
    let none : c.index.result.now ≡ None = search rules in
    let number_at = slice_get_read b.numbers.items (length calls) (place - 1) None (sym c.requires.board.numbers) within (search rules) in
    full_stays (g.P.Player.rules (g.P.Player.design old)) calls place (play_of (g.P.Player.world old) b)
    (play_of (g.P.Player.world c.number.new.player) c.number.new.board) above number_at (rw c.in-None.is at c.in_ok-number.ensures.begun)

pub returns-in-None-clause-full : goal.returns-in-None-clause-full
returns-in-None-clause-full g c =
    let old = c.args.player.now in
    let d = g.P.Player.design old in
    let calls = g.P.Player.calls old in
    let place = c.args.place in
    let b = c.args.board.now in
    let p = play_of (g.P.Player.world old) b in
    let above : 0 < place = omega (arith, c.requires.place.0) in
    let within : place - 1 < length calls = omega (arith, c.requires.place.0, c.requires.place.1) in
    let none : c.index.result.now ≡ None = search rules in
    let number_at = slice_get_read b.numbers.items (length calls) (place - 1) None (sym c.requires.board.numbers) within (search rules) in
    cannot_so (g.P.Player.rules d) calls place p (play_of (g.P.Player.world c.number.new.player) c.number.new.board)
    (unnumbered p place above number_at) (g.met.P.Ender.full d p.world) c.requires.over (rw c.in-None.is at c.in_ok-number.ensures.begun)
