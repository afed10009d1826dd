-- What a call says of the numbers that a pass may turn, and of what it shows.
use Rattle.std.proofs.Common.{◌≡◌, ◌≢◌, ◌⊎◌, ℕ, zero, suc, ◌+◌, ◌<◌, ◌≤◌, List, [], ◌∷◌, ◌++◌, length, take, drop, Some, None, Result}
use Rattle.std.proofs.Common.{Ok, Err, refl, sym, ap, ◌∙◌, subst, inl, inr, ⊎_elim, arith}
use Rattle.std.specs.Prelude.{slice_get, MatchResult, option_and_then}
use Rattle.std.proofs.lemmas.List.{append-nil}
use Rattle.std.specs.List.{Contains}
use Rattle.std.proofs.Math.Seq.{take-append_seam}
use Rattle.std.proofs.lemmas.List.Elements.{Contains-append_left, Contains-append_right, Contains-append_cases, Contains-push}
use Rattle.std.proofs.lemmas.Option.{none-some, same_Some, slice_get_within}
use mathlib.Core.List.{IsPrefix}
use Rattle.acc_base.specs.declared.designs.Design.{Design}
use Rattle.acc_base.specs.declared.machines.Call.{Call}
use Rattle.acc_base.specs.declared.machines.Event.{Event}
use Rattle.acc_base.specs.declared.machines.Event.TheVariants.{Begin}
use Rattle.acc_base.specs.declared.machines.Turn.{Turn}
use Rattle.acc_base.specs.declared.machines.Turn.TheVariants as turn
use Rattle.acc_base.specs.Machine.{World, start, world, frame_in, transaction_at}
use Rattle.acc_plain.specs.Turned.{IsUnfinished}
use Rattle.acc_machine.specs.Kept.{IsKept}
use Rattle.acc_machine.specs.Turns.{IsTurn, goes, victim, blocked}
use Rattle.acc_engine.specs.declared.errors.Drawn.{Drawn}
use Rattle.acc_engine.specs.declared.errors.Drawn.TheVariants.{Begun, Empty, Full, Crowd}
use Rattle.acc_engine.specs.declared.errors.EngineError.{EngineError}
use Rattle.acc_workers.specs.declared.turners.Why.TheVariants as why
use Rattle.acc_workers.specs.declared.turners.Given.{Given}
use Rattle.acc_workers.specs.declared.turners.Given.TheVariants as given
use Rattle.acc_workers.specs.declared.turners.Went.{Went}
use Rattle.acc_workers.specs.declared.turners.Went.TheVariants as went
use Rattle.acc_workers.specs.Turns.{Same, Gains, Loses, Keeps, Gives, Goes}
use Rattle.acc_pass.specs.declared.views.Known.{Known}
use Rattle.acc_plain.specs.Taken.{number_in}
use Rattle.acc_pass.specs.Histories.{one_for_none, begins, Owns}
use Rattle.acc_pass.specs.Rules.{Knows}
use Rattle.acc_pass.proofs.Lists.{prefix_self, prefix_trans, prefix_take, get_behind, in_none, in_one}
use Rattle.acc_pass.proofs.Owning.{owns_up, owns_down, owns_in, last_is}
use Rattle.acc_pass.proofs.Worlds.{between, others_leave, begins_are}
use Rattle.acc_beside.specs.Serving.{Script, begun_after}
use Rattle.acc_beside.specs.Calls.{placed, Called, Draws, IsMove, Turns, Settles, Looks, Fails, Shows, AllBegun, ShowsBlocked, May}
use Rattle.acc_beside.proofs.Calling.{cause_on}
use Rattle.acc_beside.proofs.Growing.{begins_up, turn_moves}
use Rattle.acc_beside.proofs.Beside.{run_of}
use Rattle.acc_engine.proofs.Turned.{open_of, is_open, turn_leaves, turn_ends, turn_unblocked, begun_open, was_open}

-- what is seen afterwards goes on from what was seen
pub goes_on : (v w : Known) (log own : List Event) → Called v w log own → IsPrefix v.seen w.seen
goes_on v w log own c =
    subst (λ (l : List Event). IsPrefix v.seen l) (sym c.seen) (prefix_trans v.seen log (log ++ own) c.begun (own, refl))

in_placed : (k n : ℕ) (e : Event) (own : List Event) → Contains (placed n own) (k, e) → Contains own e
in_placed k n e [] i = absurd (in_none (k, e) i)
in_placed k n e (x ∷ xs) i =
    ⊎_elim
    (λ (a : Contains ((n, x) ∷ []) (k, e)). (0, omega arith, ap (λ (y : ℕ × Event). y.1) (in_one (n, x) (k, e) a)))
    (λ (b : Contains (placed (n + 1) xs) (k, e)). Contains-append_right (x ∷ []) xs e (in_placed k (n + 1) e xs b))
    (Contains-append_cases ((n, x) ∷ []) (placed (n + 1) xs) (k, e) i)

-- an owned transaction has begun within what is seen
begin_within : (xs : List Event) (k : ℕ) (e : Event) → slice_get xs k ≡ Some e → number_in e ≡ None → begins (take k xs) + 1 ≤ begins xs
begin_within [] k e h n = absurd (none-some e h)
begin_within (x ∷ xs) zero e h n =
    let one : one_for_none (number_in x) ≡ 1 = ap (λ (y : Event). one_for_none (number_in y)) (same_Some x e h) ∙ ap one_for_none n in
    omega arith
begin_within (x ∷ xs) (suc k) e h n = let r = begin_within xs k e h n in omega arith

module _ (d : Design) (first : List Event) (v w : Known) (log own : List Event) (new : World) (c : Called v w log own) (kv : Knows first v)
    (kw : Knows first w) (after : world d w.seen ≡ Some new) where
  on : IsPrefix v.seen w.seen
  on = goes_on v w log own c

  -- a pass may still turn what it might, but for what was just turned
  may_on : (u : ℕ) → ((e : Event) → Contains own e → number_in e ≢ Some u) → May d v u → May d w u
  may_on u off m =
      let up = owns_up v.seen w.seen v.mine u on kv.placed m.0 in
      let own_w : Owns w.seen w.mine u = owns_in w.seen v.mine w.mine u up
      (subst (λ (l : List (ℕ × Event)). Contains l (up.place, up.event)) (sym c.mine)
      (Contains-append_left v.mine (placed (length log) own) (up.place, up.event) up.stands)) in
      let halves = between d start new v.seen on.0 (ap (world d) on.1 ∙ after) in
      let same : halves.0 ≡ m.1.state = same_Some halves.0 m.1.state (sym halves.1 ∙ m.1.run) in
      let o = open_of u m.1.state m.1.unfinished in
      let at = others_leave d halves.0 new on.0 u o.x halves.2
      (λ j e here is.
      let there : slice_get w.seen (length v.seen + j) ≡ Some e = ap (λ (l : List Event). slice_get l (length v.seen + j)) (sym on.1) ∙
      (get_behind v.seen on.0 j ∙ here) in
      let i : Contains (v.mine ++ placed (length log) own) (length v.seen + j, e) = subst
      (λ (l : List (ℕ × Event)). Contains l (length v.seen + j, e)) c.mine (kw.closed u (length v.seen + j) e own_w there is) in
      ⊎_elim
      (λ (a : Contains v.mine (length v.seen + j, e)). let within = slice_get_within v.seen (length v.seen + j) e
      (kv.placed (length v.seen + j) e a) in absurd (omega arith))
      (λ (b : Contains (placed (length log) own) (length v.seen + j, e)). absurd
      (off e (in_placed (length v.seen + j) (length log) e own b) is))
      (Contains-append_cases v.mine (placed (length log) own) (length v.seen + j, e) i))
      (subst (λ (z : World). transaction_at u z.transactions ≡ Some o.x) (sym same) o.at) in
      (own_w, record { state = new; run = after; unfinished = is_open u new o.x at o.frame })

  -- what was just begun, by a begin among these events
  record IsNew (u : ℕ) : Type 0 where
    place : ℕ
    event : Event
    stands : Contains (placed (length log) own) (place, event)
    is_begin : number_in event ≡ None
    number : begins (take place w.seen) + 1 ≡ u

  -- and no more, but for what was just begun
  may_back : (u : ℕ) → May d w u → May d v u ⊎ IsNew u
  may_back u m =
      let o = m.0 in
      ⊎_elim
      (λ (i : Contains v.mine (o.place, o.event)).
      let own_v = owns_down v.seen w.seen v.mine u on kv.placed (owns_in w.seen w.mine v.mine u o i) in
      let begun = begin_within v.seen o.place o.event (kv.placed o.place o.event i) o.is_begin in
      let halves = between d start new v.seen on.0 (ap (world d) on.1 ∙ after) in
      let are : begins v.seen ≡ length halves.0.transactions = begins_are d v.seen halves.0 halves.1 in
      let number : begins (take o.place v.seen) + 1 ≡ u = ap (λ (l : List Event). begins l + 1)
      (sym (prefix_take v.seen w.seen o.place o.event on (kv.placed o.place o.event i))) ∙ o.number in
      let from_one : 0 < u = omega (arith, number) in
      let within : u ≤ length halves.0.transactions = omega (arith, number, begun, are) in
      let same : m.1.state ≡ new = same_Some m.1.state new (sym m.1.run ∙ after) in
      let late : IsUnfinished u new = subst (IsUnfinished u) same m.1.unfinished in
      inl (own_v, record { state = halves.0; run = halves.1; unfinished = was_open d halves.0 new on.0 u halves.2 from_one within late }))
      (λ (i : Contains (placed (length log) own) (o.place, o.event)). inr
      (record { place = o.place; event = o.event; stands = i; is_begin = o.is_begin; number = o.number }))
      (Contains-append_cases v.mine (placed (length log) own) (o.place, o.event)
      (subst (λ (l : List (ℕ × Event)). Contains l (o.place, o.event)) c.mine o.stands))

module _ (d : Design) (first : List Event) (v w : Known) (kv : Knows first v) (kw : Knows first w) where
  -- no event
  same_quiet : (log : List Event) (new : World) → Called v w log [] → world d w.seen ≡ Some new → Same (May d) v w
  same_quiet log new c after t = (
    (λ m. ⊎_elim (λ a. a) (λ (b : IsNew d first v w log [] new c kv kw after t). absurd (in_none (b.place, b.event) b.stands))
        (may_back d first v w log [] new c kv kw after t m)),
    may_on d first v w log [] new c kv kw after t (λ e i. absurd (in_none e i)),
  )

  -- a begin
  gains_begin : (log : List Event) (call : Call) (new : World) (t : ℕ) → Called v w log (Begin call ∷ []) → world d w.seen ≡ Some new
      → IsUnfinished t new → t ≡ begins log + 1 → Gains (May d) t v w
  gains_begin log call new t c after open_t is = (
    (
      record {
        place = length log;
        event = Begin call;
        stands = subst (λ (l : List (ℕ × Event)). Contains l (length log, Begin call))
            (sym c.mine) (Contains-push v.mine (length log, Begin call));
        is_begin = refl;
        number = whole ∙ sym is;
      },
      record { state = new; run = after; unfinished = open_t },
    ),
    (λ u m. ⊎_elim (λ a. inl a) (λ (b : IsNew d first v w log (Begin call ∷ []) new c kv kw after u). inr
        (sym b.number ∙ (at_last b.place b.event b.stands ∙ sym is))) (may_back d first v w log (Begin call ∷ []) new c kv kw after u m)),
    (λ u. may_on d first v w log (Begin call ∷ []) new c kv kw after u (λ e i m. none-some u (ap number_in (in_one (Begin call) e i) ∙ m))),
  )
    where
      whole : begins (take (length log) w.seen) + 1 ≡ begins log + 1
      whole =
          ap (λ (l : List Event). begins (take (length log) l) + 1) c.seen ∙ ap (λ (l : List Event). begins l + 1)
          (take-append_seam log (Begin call ∷ []))

      at_last : (k : ℕ) (e : Event) → Contains {X = ℕ × Event} ((length log, Begin call) ∷ []) (k, e) → begins (take k w.seen) + 1 ≡
          begins log + 1
      at_last k e i = ap (λ (n : ℕ). begins (take n w.seen) + 1) (last_is k (length log) e (Begin call) i).0 ∙ whole

  -- an event of t
  module _ (log : List Event) (event : Event) (new : World) (t : ℕ) (c : Called v w log (event ∷ [])) (after : world d w.seen ≡ Some new)
      (is : number_in event ≡ Some t) where
    no_new : (u : ℕ) → IsNew d first v w log (event ∷ []) new c kv kw after u → ⊥
    no_new u b =
        let q = last_is b.place (length log) b.event event b.stands in
        none-some t (sym b.is_begin ∙ ap number_in q.1 ∙ is)

    others : (u : ℕ) → u ≢ t → (e : Event) → Contains (event ∷ []) e → number_in e ≢ Some u
    others u n e i m = n (sym (same_Some t u (sym is ∙ (ap number_in (in_one event e i) ∙ m))))

    same_move : IsUnfinished t new → May d v t → Same (May d) v w
    same_move open_t was u = (
      (λ m. ⊎_elim (λ a. a) (λ (b : IsNew d first v w log (event ∷ []) new c kv kw after u). absurd (no_new u b))
          (may_back d first v w log (event ∷ []) new c kv kw after u m)),
      (λ m. elim (native.Mathlib.Decide.ℕ_discrete u t) [
        | yes e ↦ subst (May d w) (sym e) live
        | no n ↦ may_on d first v w log (event ∷ []) new c kv kw after u (others u n) m
      ]),
    )
      where
        on' : IsPrefix v.seen w.seen
        on' = goes_on v w log (event ∷ []) c

        live : May d w t
        live =
            let up = owns_up v.seen w.seen v.mine t on' kv.placed was.0 in (
              owns_in w.seen v.mine w.mine t up (subst (λ (l : List (ℕ × Event)). Contains l (up.place, up.event)) (sym c.mine)
                  (Contains-append_left v.mine ((length log, event) ∷ []) (up.place, up.event) up.stands)),
              record { state = new; run = after; unfinished = open_t },
            )

    loses_move : (IsUnfinished t new → ⊥) → Loses (May d) t v w
    loses_move over = (
      (λ m. over (subst (IsUnfinished t) (same_Some m.1.state new (sym m.1.run ∙ after)) m.1.unfinished)),
      (λ u m. ⊎_elim (λ a. a) (λ (b : IsNew d first v w log (event ∷ []) new c kv kw after u). absurd (no_new u b))
          (may_back d first v w log (event ∷ []) new c kv kw after u m)),
      (λ u n m. may_on d first v w log (event ∷ []) new c kv kw after u (others u n) m),
    )

-- ---- the engine's answers

run_after : (d : Design) (log own : List Event) (w : Known) (new : World) → IsKept d new → new.events ≡ log ++ own → w.seen ≡ log ++ own
    → world d w.seen ≡ Some new
run_after d log own w new kept added seen = ap (world d) (seen ∙ sym added) ∙ run_of d new kept

module _ (script : Script) (first : List Event) (v w : Known) (kv : Knows first v) (kw : Knows first w) where
  pub draws_begun : (t : ℕ) → Draws script first v w (Begun t) → Gains (May script.design) t v w
  draws_begun t d =
      let b = d.draws.0 in
      let c : Called v w d.old.events (Begin b.call ∷ []) = subst (λ (own : List Event). Called v w d.old.events own) b.own_is d.called in
      let are = begins_are script.design d.old.events d.old (run_of script.design d.old d.kept) in
      let n = b.number in
      gains_begin script.design first v w kv kw d.old.events b.call d.new t c
      (run_after script.design d.old.events d.own w d.new d.left d.added d.called.seen)
      (subst (λ (k : ℕ). IsUnfinished k d.new) (sym n) (begun_open script.design d.old d.new b.call b.begins)) (omega arith)

  still_run : (d : Design) (old new : World) (own : List Event) → IsKept d old → (new ≡ old) × (own ≡ []) → Called v w old.events own
      → Called v w old.events [] × (world d w.seen ≡ Some old)
  still_run d old new own kept still c =
      let c' : Called v w old.events [] = subst (λ (l : List Event). Called v w old.events l) still.1 c in
      (c', ap (world d) (c'.seen ∙ append-nil old.events) ∙ run_of d old kept)

  pub draws_empty : Draws script first v w Empty → Same (May script.design) v w × AllBegun script first w
  draws_empty d =
      let s = still_run script.design d.old d.new d.own d.kept d.draws.1 d.called in (
        same_quiet script.design first v w kv kw d.old.events d.old s.0 s.1,
        subst (λ (l : List Event). length script.calls ≤ begun_after script first l) (sym (s.0.seen ∙ append-nil d.old.events)) d.draws.0,
      )

  -- a turn with its event that isn't the end
  pub turns_on : (t : ℕ) (x : Turn) (h : Turns script.design t v w x) → IsMove t h.own → x ≢ turn.Ended → May script.design v t
      → Same (May script.design) v w
  turns_on t x h move n was =
      let c : Called v w h.old.events (move.event ∷ []) = subst (λ (own : List Event). Called v w h.old.events own) move.own_is h.called in
      same_move script.design first v w kv kw h.old.events move.event h.new t c
      (run_after script.design h.old.events h.own w h.new h.left h.added h.called.seen) (turn_moves t move.event move.of_turn)
      (turn_leaves script.design h.old h.new t x h.unfinished h.turns n) was

  -- the end
  pub turns_ended : (t : ℕ) → Turns script.design t v w turn.Ended → Loses (May script.design) t v w
  turns_ended t h =
      let move = h.makes in
      let c : Called v w h.old.events (move.event ∷ []) = subst (λ (own : List Event). Called v w h.old.events own) move.own_is h.called in
      loses_move script.design first v w kv kw h.old.events move.event h.new t c
      (run_after script.design h.old.events h.own w h.new h.left h.added h.called.seen) (turn_moves t move.event move.of_turn)
      (turn_ends script.design h.old h.new t turn.Ended h.unfinished h.turns refl)

  -- a block
  pub turns_blocked : (t holder entry : ℕ) → Turns script.design t v w (turn.Blocked holder entry)
      → Same (May script.design) v w × ShowsBlocked script.design w t
  turns_blocked t holder entry h =
      (same_quiet script.design first v w kv kw h.old.events h.old c run, by (turn.Blocked holder entry) refl h.turns)
    where
      c : Called v w h.old.events []
      c = subst (λ (own : List Event). Called v w h.old.events own) h.makes h.called

      run : world script.design w.seen ≡ Some h.old
      run = ap (world script.design) (c.seen ∙ append-nil h.old.events) ∙ run_of script.design h.old h.kept

      by : (x : Turn) → x ≡ turn.Blocked holder entry → IsTurn script.design h.old h.new t x → ShowsBlocked script.design w t
      by x e (goes y is free) =
          absurd (turn_unblocked script.design h.old h.new t holder entry (is ∙ ap (λ (z : Turn). Some (z, h.new)) e))
      by x e (victim f at stuck is) = absurd cc
      by x e (blocked f u n at stop low loose same) = record {
        state = h.old;
        run = run;
        frame = f;
        is_frame = ap (option_and_then frame_in) at;
        holder = u;
        entry = n;
        blocked = low.blocked;
      }

  quiet : (old : World) → IsKept script.design old → Called v w old.events [] → Same (May script.design) v w
  quiet old kept c =
      same_quiet script.design first v w kv kw old.events old c
      (ap (world script.design) (c.seen ∙ append-nil old.events) ∙ run_of script.design old kept)

  pub looks_same : Looks script.design v w → Same (May script.design) v w
  looks_same l = quiet l.old l.kept l.called

-- ---- what is shown stays

begins_drop : (n : ℕ) (xs ys : List Event) → begins (drop n xs) ≤ begins (drop n (xs ++ ys))
begins_drop zero xs ys = begins_up xs (xs ++ ys) (ys, refl)
begins_drop (suc n) [] ys = omega arith
begins_drop (suc n) (x ∷ xs) ys = begins_drop n xs ys

pub keeps_shown : (script : Script) (first : List Event) (v w : Known) (log own : List Event) → Called v w log own
    → Keeps (AllBegun script first) (Shows script.design) v w
keeps_shown script first v w log own c =
    let p = goes_on v w log own c in (
      (λ d.
          let b = begins_drop (length first) v.seen p.0 in
          let s = ap (λ (l : List Event). begins (drop (length first) l)) p.1 in omega arith),
      (λ cause h. cause_on script.design v.seen w.seen v.broken w.broken cause p c.broken h),
    )

module _ (script : Script) (first : List Event) (v w : Known) where
  pub looks_keeps : Looks script.design v w → Keeps (AllBegun script first) (Shows script.design) v w
  looks_keeps l = keeps_shown script first v w l.old.events [] l.called

  pub draws_keeps : (r : Result Drawn EngineError) → MatchResult r (Draws script first v w) (Fails script.design v w)
      → Keeps (AllBegun script first) (Shows script.design) v w
  draws_keeps (Ok d) h = keeps_shown script first v w h.old.events h.own h.called
  draws_keeps (Err e) h = looks_keeps h.looks

  pub turns_keeps : (t : ℕ) (r : Result Turn EngineError) → MatchResult r (Turns script.design t v w) (Fails script.design v w)
      → Keeps (AllBegun script first) (Shows script.design) v w
  turns_keeps t (Ok d) h = keeps_shown script first v w h.old.events h.own h.called
  turns_keeps t (Err e) h = looks_keeps h.looks

  -- a settling makes no event
  pub settles_look : (r : Result ℕ EngineError) → MatchResult r (Settles script.design v w) (Fails script.design v w)
      → Looks script.design v w
  settles_look (Ok n) h = record { old = h.old; kept = h.kept; called = h.called }
  settles_look (Err e) h = h.looks

  pub draws_at : (r : Result Drawn EngineError) (d : Drawn) → r ≡ Ok d → MatchResult r (Draws script first v w) (Fails script.design v w)
      → Draws script first v w d
  draws_at r d is h = subst (λ (x : Result Drawn EngineError). MatchResult x (Draws script first v w) (Fails script.design v w)) is h

  pub turns_at : (t : ℕ) (r : Result Turn EngineError) (d : Turn) → r ≡ Ok d
      → MatchResult r (Turns script.design t v w) (Fails script.design v w) → Turns script.design t v w d
  turns_at t r d is h = subst (λ (x : Result Turn EngineError). MatchResult x (Turns script.design t v w) (Fails script.design v w)) is h

  seen_as : (old : World) (new : World) (own : List Event) → (new ≡ old) × (own ≡ []) → Called v w old.events own → w.seen ≡ old.events
  seen_as old new own still c = c.seen ∙ ap (λ (l : List Event). old.events ++ l) still.1 ∙ append-nil old.events

  pub draws_full : Draws script first v w Full → Shows script.design w why.Full
  draws_full d =
      let many = d.draws.1 in
      let s = ap length (seen_as d.old d.new d.own d.draws.2 d.called) in omega arith

  pub draws_crowd : Draws script first v w Crowd → Shows script.design w why.Crowd
  draws_crowd d =
      let s = seen_as d.old d.new d.own d.draws.3 d.called in record {
        past = d.old.events;
        front = subst (λ (l : List Event). IsPrefix d.old.events l) (sym s) (prefix_self d.old.events);
        state = d.old;
        run = run_of script.design d.old d.kept;
        many = d.draws.2;
      }

-- ---- two calls, one after the other

module _ (script : Script) (first : List Event) (u v w : Known) where
  pub keeps_then : Keeps (AllBegun script first) (Shows script.design) u v → Keeps (AllBegun script first) (Shows script.design) v w
      → Keeps (AllBegun script first) (Shows script.design) u w
  keeps_then p q = ((λ d. q.0 (p.0 d)), (λ cause h. q.1 cause (p.1 cause h)))

  pub same_then : Same (May script.design) u v → Same (May script.design) v w → Same (May script.design) u w
  same_then p q t = ((λ m. (p t).0 ((q t).0 m)), (λ m. (q t).1 ((p t).1 m)))

  pub gives_then : (g : Given) → Same (May script.design) u v
      → Gives (May script.design) (AllBegun script first) (Shows script.design) v w g
      → Gives (May script.design) (AllBegun script first) (Shows script.design) u w g
  gives_then (given.Begun t) p g = (g.0, (λ x m. ⊎_elim (λ a. inl ((p x).0 a)) (λ b. inr b) (g.1 x m)), (λ x m. g.2 x ((p x).1 m)))
  gives_then given.NoMore p g = (same_then p g.0, g.1)
  gives_then (given.Halt cause) p g = g

  pub loses_then : (t : ℕ) → Same (May script.design) u v → Loses (May script.design) t v w → Loses (May script.design) t u w
  loses_then t p g = (g.0, (λ x m. (p x).0 (g.1 x m)), (λ x n m. g.2 x n ((p x).1 m)))

  pub loses_before : (t : ℕ) → Loses (May script.design) t u v → Same (May script.design) v w → Loses (May script.design) t u w
  loses_before t g p = ((λ m. g.0 ((p t).0 m)), (λ x m. g.1 x ((p x).0 m)), (λ x n m. (p x).1 (g.2 x n m)))

  pub goes_then : (t : ℕ) (g : Went) → Same (May script.design) u v
      → Goes (May script.design) (ShowsBlocked script.design) (Shows script.design) t v w g
      → Goes (May script.design) (ShowsBlocked script.design) (Shows script.design) t u w g
  goes_then t went.On p g = same_then p g
  goes_then t (went.Wait n) p g = (same_then p g.0, g.1)
  goes_then t went.Ended p g = loses_then t p g
  goes_then t (went.Halt cause) p g = g
