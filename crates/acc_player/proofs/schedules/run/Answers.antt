use Rattle.std.proofs.Common.{◌∙◌, List, length, subst}
use Rattle.std.specs.List.{range_with_len}
use Rattle.acc_base.specs.declared.designs.Design.{Design}
use Rattle.acc_base.specs.declared.machines.Call.{Call}
use Rattle.acc_player.specs.Boards.{play_of}
use Rattle.acc_player.specs.Details.{mention_text}
use Rattle.acc_player.specs.Endings.{EndsAll, EndsPlaces}
use Rattle.acc_player.specs.Ways.{PrecedesEach, PlayPrecedesEach}
use Rattle.acc_player.proofs.Items.{on_ok, on_err, if_stopped}
use Rattle.acc_player.proofs.Orders.{runs_so}
use Rattle.acc_player.proofs.Wholes.{front_order, front_passes, front_places}
use Rattle.acc_player.proofs.schedules.run.Goals as goal

pub returns-clause-runs : goal.returns-clause-runs
returns-clause-runs g c =
    let d = c.args.d.now in
    let text_of = mention_text c.args.detail d in
    let m = g.P.Player.rules d in
    let calls = g.P.Player.calls c.args.player.now in
    let w1 = g.P.Player.world c.mention_all.new.player in
    let w2 = g.P.Player.world c.end_all.new.player in
    let w3 = g.P.Player.world c.end_places.new.player in
    let b1 = c.mention_all.new.board in
    let b3 = c.end_places.new.board in
    let d1 = c.mention_all.ensures.design ∙ c.requires.design in
    let d2 = c.end_all.ensures.design ∙ d1 in
    let calls2 = c.end_all.ensures.calls ∙ c.mention_all.ensures.calls in
    let ends = subst (λ (x : Design). EndsAll (g.P.Player.rules x) w1 w2) d1 c.in_ok-end_all.ensures.ends in
    on_ok c.end_places.result (λ places.
    runs_so m text_of calls (play_of (g.P.Player.world c.args.player.now) c.args.board.now) c.args.order.now b1.text.items b3.text.items
    (play_of w1 b1)
    w2 (play_of w3 b3) c.in_ok-mention_all.ensures.played ends
    (subst (λ (cs : List Call). EndsPlaces m cs (play_of w2 b1) (range_with_len 1 (length cs)) (play_of w3 b3)) calls2
    (subst (λ (x : Design). EndsPlaces (g.P.Player.rules x) (g.P.Player.calls c.end_all.new.player) (play_of w2 b1)
    (range_with_len 1 (length (g.P.Player.calls c.end_all.new.player))) (play_of w3 b3)) d2 places)) c.end_places.ensures.text)
    c.end_places.ensures.ends

pub returns-in_err-mention_all-clause-front : goal.returns-in_err-mention_all-clause-front
returns-in_err-mention_all-clause-front g c =
    let d = c.args.d.now in
    if_stopped c.from_residual.result
    (front_order (g.P.Player.rules d) (g.met.P.Player.orderly d) (g.P.Player.calls c.args.player.now) c.args.order.now
    (play_of (g.P.Player.world c.args.player.now) c.args.board.now)
    (play_of (g.P.Player.world c.mention_all.new.player) c.mention_all.new.board) c.in_err-mention_all.ensures.front)

pub returns-in_err-end_all-clause-front : goal.returns-in_err-end_all-clause-front
returns-in_err-end_all-clause-front g c =
    let d = c.args.d.now in
    let text_of = mention_text c.args.detail d in
    let b1 = c.mention_all.new.board in
    let w1 = g.P.Player.world c.mention_all.new.player in
    let now = g.P.Player.world c.end_all.new.player in
    if_stopped c.from_residual-in_err-end_all.result
    (front_passes (g.P.Player.rules d) (g.met.P.Player.orderly d) (g.P.Player.calls c.args.player.now) c.args.order.now
    (play_of (g.P.Player.world c.args.player.now) c.args.board.now) text_of b1.text.items (play_of w1 b1) c.in_ok-mention_all.ensures.played
    now (subst (λ (x : Design). PrecedesEach now (EndsAll (g.P.Player.rules x) w1)) (c.mention_all.ensures.design ∙ c.requires.design)
    c.in_err-end_all.ensures.front))

pub returns-clause-front : goal.returns-clause-front
returns-clause-front g c =
    let d = c.args.d.now in
    let text_of = mention_text c.args.detail d in
    let m = g.P.Player.rules d in
    let calls = g.P.Player.calls c.args.player.now in
    let b1 = c.mention_all.new.board in
    let w1 = g.P.Player.world c.mention_all.new.player in
    let w2 = g.P.Player.world c.end_all.new.player in
    let now = play_of (g.P.Player.world c.end_places.new.player) c.end_places.new.board in
    let d1 = c.mention_all.ensures.design ∙ c.requires.design in
    let d2 = c.end_all.ensures.design ∙ d1 in
    let calls2 = c.end_all.ensures.calls ∙ c.mention_all.ensures.calls in
    let ends = subst (λ (x : Design). EndsAll (g.P.Player.rules x) w1 w2) d1 c.in_ok-end_all.ensures.ends in
    on_err c.end_places.result (λ front.
    front_places m (g.met.P.Player.orderly d) calls c.args.order.now (play_of (g.P.Player.world c.args.player.now) c.args.board.now) text_of
    b1.text.items (play_of w1 b1) c.in_ok-mention_all.ensures.played w2 now ends
    (subst (λ (cs : List Call). PlayPrecedesEach now (EndsPlaces m cs (play_of w2 b1) (range_with_len 1 (length cs)))) calls2
    (subst (λ (x : Design). PlayPrecedesEach now (EndsPlaces (g.P.Player.rules x) (g.P.Player.calls c.end_all.new.player) (play_of w2 b1)
    (range_with_len 1 (length (g.P.Player.calls c.end_all.new.player))))) d2 front))) c.end_places.ensures.front
