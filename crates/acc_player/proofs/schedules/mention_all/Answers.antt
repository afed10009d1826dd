use Rattle.std.proofs.Common.{◌≡◌, ◌∙◌, ℕ, ◌+◌, ◌∷◌, ◌<◌, ◌≤◌, [], List, None, length, drop, get_or, refl, subst, arith, add-one, drop-cons}
use Rattle.std.proofs.lemmas.List.{drop_all}
use Rattle.acc_base.specs.declared.machines.Call.{Call}
use Rattle.acc_player.specs.Boards.{play_of, IsMentioned, IsAfterMention}
use Rattle.acc_player.specs.Details.{mention_text}
use Rattle.acc_player.specs.Ways.{PlayPrecedesEach}
use Rattle.acc_player.proofs.Items.{if_stopped}
use Rattle.acc_player.proofs.Orders.{IsPlayedSoFar, opens_play, played_more, played}
use Rattle.acc_player.proofs.Remaining.{LeavesPlay, leaves_play, stops_play}
use Rattle.acc_player.proofs.schedules.mention_all.Goals as goal

pub loop-place-init : goal.loop-place-init
loop-place-init g c =
    let d = c.args.d.now in
    let text_of = mention_text c.args.detail d in
    let e = c.args.player.now in
    let b = c.args.board.now in
    let p = play_of (g.P.Player.world e) b in
    record {
      board = c.requires.board;
      played = opens_play (g.P.Player.rules d) text_of (g.P.Player.calls e) p c.args.order.now b.text.items p c.requires.text refl;
      left = λ q h. h;
      ready = c.requires.ready;
      design = refl;
      calls = refl;
      done = g.met.P.Player.leaves_none e c.requires.ready;
    }

pub loop-place-preserved : goal.loop-place-preserved
loop-place-preserved g c =
    let d = c.args.d.now in
    let text_of = mention_text c.args.detail d in
    let m = g.P.Player.rules d in
    let was = c.args.player.now in
    let calls = g.P.Player.calls was in
    let first = play_of (g.P.Player.world was) c.args.board.now in
    let order = c.args.order.now in
    let i = c.loop-place.place-index in
    let old = c.loop-place.player in
    let new = c.mention.new.player in
    let before = c.loop-place.board in
    let after = c.mention.new.board in
    let p = play_of (g.P.Player.world old) before in
    let q = play_of (g.P.Player.world new) after in
    let inv = c.loop-place.invariant in
    let mentioned =
    subst (λ (cs : List Call). IsMentioned m text_of cs (get_or order i 0) (g.P.Player.world old) (g.P.Player.world new) before after)
    inv.calls c.in_ok-mention.ensures.mention in
    let within : i < length order = omega arith in
    let split : drop i order ≡ get_or order i 0 ∷ drop (i + 1) order = rw (add-one, drop-cons order i 0) in
    record {
      board = c.mention.ensures.board;
      played = played_more m text_of calls first order (drop (i + 1) order) before.text.items after.text.items (get_or order i 0) p
          (mentioned.told, q)
          (subst (λ (zs : List ℕ). IsPlayedSoFar m text_of calls first order zs before.text.items p) split inv.played) mentioned.is_mention
          mentioned.text;
      left = leaves_play m (g.met.P.Player.orderly d) calls first p order (drop (i + 1) order) (get_or order i 0) (mentioned.told, q)
          (subst (λ (zs : List ℕ). LeavesPlay m calls first order p zs) split inv.left) mentioned.is_mention;
      ready = g.met.P.Player.leaves_ready old new c.in_ok-mention.ensures.done;
      design = c.mention.ensures.design ∙ inv.design;
      calls = c.mention.ensures.calls ∙ inv.calls;
      done = g.met.P.Player.leaves_more None was old new inv.done c.in_ok-mention.ensures.done;
    }

pub returns-clause-played : goal.returns-clause-played
returns-clause-played g c =
    let d = c.args.d.now in
    let text_of = mention_text c.args.detail d in
    let m = g.P.Player.rules d in
    let was = c.args.player.now in
    let calls = g.P.Player.calls was in
    let first = play_of (g.P.Player.world was) c.args.board.now in
    let order = c.args.order.now in
    let b = c.loop-place.board in
    let p = play_of (g.P.Player.world c.loop-place.player) b in
    let past : length order ≤ c.loop-place.place-index = omega arith in
    let over : drop c.loop-place.place-index order ≡ [] = drop_all c.loop-place.place-index order past in
    played m text_of calls first order b.text.items p
    (subst (λ (zs : List ℕ). IsPlayedSoFar m text_of calls first order zs b.text.items p) over c.loop-place.invariant.played)

pub returns-in_err-mention-clause-front : goal.returns-in_err-mention-clause-front
returns-in_err-mention-clause-front g c =
    let d = c.args.d.now in
    let m = g.P.Player.rules d in
    let was = c.args.player.now in
    let calls = g.P.Player.calls was in
    let first = play_of (g.P.Player.world was) c.args.board.now in
    let order = c.args.order.now in
    let i = c.loop-place.place-index in
    let old = play_of (g.P.Player.world c.loop-place.player) c.loop-place.board in
    let now = play_of (g.P.Player.world c.mention.new.player) c.mention.new.board in
    let inv = c.loop-place.invariant in
    let within : i < length order = omega arith in
    let split : drop i order ≡ get_or order i 0 ∷ drop (i + 1) order = rw (add-one, drop-cons order i 0) in
    if_stopped c.from_residual.result
    (stops_play m (g.met.P.Player.orderly d) calls first old now order (drop (i + 1) order) (get_or order i 0)
    (subst (λ (zs : List ℕ). LeavesPlay m calls first order old zs) split inv.left)
    (subst (λ (cs : List Call). PlayPrecedesEach now (IsAfterMention m cs (get_or order i 0) old)) inv.calls
    c.in_err-mention.ensures.front))
