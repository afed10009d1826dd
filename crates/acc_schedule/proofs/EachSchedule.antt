-- From each play whose state is kept there is a whole schedule: each mention, each pass and each place comes about, and passes end.
use Rattle.std.proofs.Common.{◌≡◌, ◌⊎◌, ◌<◌, ◌≤◌, ◌+◌, ◌-◌, inl, inr, ℕ, zero, suc, true, List, [], ◌∷◌, length, get_or, Option, Some, None}
use Rattle.std.proofs.Common.{refl, sym, ◌∙◌, arith}
use Rattle.std.specs.Prelude.{◌≢◌, All, IfSome, slice_get}
use Rattle.std.specs.List.{range_with_len}
use Rattle.std.proofs.lemmas.List.Elements.{All-nil, All-cons, All-head, All-tail}
use Rattle.std.proofs.lemmas.Option.{slice_get_cases}
use Rattle.acc_base.specs.declared.designs.Design.{Design}
use Rattle.acc_base.specs.declared.machines.Call.{Call}
use Rattle.acc_base.specs.declared.machines.Frame.{Frame}
use Rattle.acc_base.specs.declared.machines.Reply.{Reply}
use Rattle.acc_base.specs.declared.machines.Turn.{Turn}
use Rattle.acc_base.specs.Items.{item_at}
use Rattle.acc_base.specs.Machine.{World, call_fits, unfinished, next_number, reply_at}
use Rattle.acc_base.specs.Plays.{Play, Told, IsOver, IsFull, number_of, with_place, told_turn, Goes, Mentions, PlaysOn, play_after}
use Rattle.acc_base.proofs.Items.{at_slice_get}
use Rattle.acc_script.specs.OrderLines.{IsPlace}
use Rattle.acc_lock_rules.specs.Kept.{IsKept}
use Rattle.acc_player.specs.Endings.{after_turn, TurnsEach, none, turns, unfinished_numbers, EndsAll, ended, pass, EndsPlace, EndsPlaces}
use Rattle.acc_player.specs.Endings.{most_ever}
use Rattle.acc_player.specs.Playing.{AllFit}
use Rattle.acc_player.specs.Schedules.{in_state}
use Rattle.acc_player.proofs.Items.{item_is}
use Rattle.acc_lock_rules.specs.LockRules.{with_locks, BeginsWithRoom}
use Rattle.acc_lock_rules.proofs.EachTurn.{its_turn, its_begin}
use Rattle.acc_lock_rules.proofs.Living.{bounded, locks_live}
use Rattle.acc_schedule.specs.Laws.{WholeSchedulesAre}

-- ---- passes

module _ (d : Design) where
  record TurnsThere (w : World) (ts : List ℕ) : Type 0 where
    last : World
    turned : TurnsEach (with_locks d) w ts last
    kept : IsKept d last

  turns_there : (ts : List ℕ) (w : World) → IsKept d w → TurnsThere w ts
  turns_there [] w kept = record { last = w; turned = none; kept = kept }
  turns_there (t ∷ ts) w kept =
      let x = its_turn d w kept t in
      let rest = turns_there ts (after_turn w x.turn) x.kept in
      record { last = rest.last; turned = turns x.turn x.allowed rest.turned; kept = rest.kept }

  record EndThere (w : World) : Type 0 where
    last : World
    ends : EndsAll (with_locks d) w last
    kept : IsKept d last

  -- all is ended; or there is a pass, by which there are more events, and what is left is left to another
  pass_there : (w : World) → IsKept d w → ((v : World) → IsKept d v → length w.events < length v.events → EndThere v) → EndThere w
  pass_there w kept later = by (unfinished w) refl
    where
      by : (fs : List Frame) → unfinished w ≡ fs → EndThere w
      by [] over = record { last = w; ends = ended over; kept = kept }
      by (f ∷ fs) is =
          let some : unfinished w ≢ [] = λ over. let not : f ∷ fs ≡ [] = sym is ∙ over in cc in
          let p = turns_there (unfinished_numbers w) w kept in
          let rest = later p.last p.kept (locks_live d w kept.good.steady some p.last p.turned) in
          record { last = rest.last; ends = pass some p.turned rest.ends; kept = rest.kept }

  -- there are so many more events at most
  end_within : (more : ℕ) (w : World) → IsKept d w → most_ever ≤ more + length w.events → EndThere w
  end_within zero w kept few =
      pass_there w kept (λ v k longer. let most = bounded d v k.good in absurd (omega (arith, few, longer, most)))
  end_within (suc more) w kept few = pass_there w kept (λ v k longer. end_within more v k (omega (arith, few, longer)))

  end_there : (w : World) → IsKept d w → EndThere w
  end_there w kept = end_within most_ever w kept (omega arith)

-- ---- places

module _ (d : Design) (calls : List Call) (fit : AllFit d calls) where
  record CallAt (place : ℕ) : Type 0 where
    call : Call
    is_call : item_at place calls ≡ Some call
    fits : call_fits (slice_get d.types call.ty) call ≡ true

  call_at : (place : ℕ) → IsPlace (length calls) place → CallAt place
  call_at place at = by (slice_get_cases calls (place - 1)).1
    where
      by : ((x : Call) × (place - 1 < length calls) × (slice_get calls (place - 1) ≡ Some x) × (get_or calls (place - 1) x ≡ x))
          ⊎ ((length calls ≤ place - 1) × (slice_get calls (place - 1) ≡ None)) → CallAt place
      by (inl c) =
          let low = at.0 in
          record {
            call = c.0;
            is_call = item_is place calls c.0 (omega (arith, low)) c.2;
            fits = at_slice_get (λ (call : Call). call_fits (slice_get d.types call.ty) call ≡ true) calls (place - 1) c.0 fit c.2;
          }
      by (inr past) = let low = at.0 in let high = at.1 in let over = past.0 in absurd (omega (arith, low, high, over))

  -- ---- mentions

  record GoesThere (place t : ℕ) (p : Play) (reply : Option Reply) : Type 0 where
    told : Told × Play
    goes : Goes (with_locks d) place t p reply told
    kept : IsKept d told.1.world

  goes_there : (place t : ℕ) (p : Play) (reply : Option Reply) → IsKept d p.world → GoesThere place t p reply
  goes_there place t p (Some reply) kept = record { told = (IsOver place, p); goes = refl; kept = kept }
  goes_there place t p None kept =
      let x = its_turn d p.world kept t in
      record {
        told = told_turn place p x.turn;
        goes = record { turn = x.turn; allowed = x.allowed; told = refl };
        kept = told_kept x.turn x.kept;
      }
    where
      told_kept : (o : Option (Turn × World)) → IsKept d (after_turn p.world o) → IsKept d (told_turn place p o).1.world
      told_kept None k = k
      told_kept (Some x) k = k

  record MentionThere (place : ℕ) (p : Play) (number : Option ℕ) : Type 0 where
    told : Told × Play
    mentions : Mentions (with_locks d) calls place p number told
    kept : IsKept d told.1.world

  mention_there : (place : ℕ) (p : Play) (number : Option ℕ) → IsPlace (length calls) place → IsKept d p.world
      → MentionThere place p number
  mention_there place p (Some t) at kept =
      let x = goes_there place t p (reply_at t p.world) kept in record { told = x.told; mentions = x.goes; kept = x.kept }
  mention_there place p None at kept =
      let c = call_at place at in
      let b = its_begin d p.world kept c.call c.fits in
      by c b.world b.allowed b.kept
    where
      by : (c : CallAt place) (o : Option World) → BeginsWithRoom d p.world c.call o → IfSome o (IsKept d) → MentionThere place p None
      by c None full k = record {
        told = (IsFull place, p);
        mentions = record { call = c.call; is_call = c.is_call; world = None; allowed = full; opens = refl };
        kept = kept;
      }
      by c (Some w) begins k =
          let x = goes_there place (next_number p.world) (with_place p place w) (reply_at (next_number p.world) w) k in
          record {
            told = x.told;
            mentions = record { call = c.call; is_call = c.is_call; world = Some w; allowed = begins; opens = x.goes };
            kept = x.kept;
          }

  record PlayThere (p : Play) (order : List ℕ) : Type 0 where
    mentions : List (Told × Play)
    plays : PlaysOn (with_locks d) calls p order mentions
    kept : IsKept d (play_after p mentions).world

  play_there : (order : List ℕ) (p : Play) → All (IsPlace (length calls)) order → IsKept d p.world → PlayThere p order
  play_there [] p places kept = record { mentions = []; plays = tt; kept = kept }
  play_there (place ∷ order) p places kept =
      let x = mention_there place p (number_of p place) (All-head (IsPlace (length calls)) place order places) kept in
      let rest = play_there order x.told.1 (All-tail (IsPlace (length calls)) place order places) x.kept in
      record { mentions = x.told ∷ rest.mentions; plays = (x.mentions, rest.plays); kept = rest.kept }

  -- ---- places that haven't begun

  record PlaceThere (place : ℕ) (p : Play) (number : Option ℕ) : Type 0 where
    last : Play
    ends : EndsPlace (with_locks d) calls place p number last
    kept : IsKept d last.world

  place_there : (place : ℕ) (p : Play) (number : Option ℕ) → IsPlace (length calls) place → IsKept d p.world
      → PlaceThere place p number
  place_there place p (Some t) at kept = record { last = p; ends = refl; kept = kept }
  place_there place p None at kept =
      let c = call_at place at in
      let b = its_begin d p.world kept c.call c.fits in
      by c b.world b.allowed b.kept
    where
      by : (c : CallAt place) (o : Option World) → BeginsWithRoom d p.world c.call o → IfSome o (IsKept d) → PlaceThere place p None
      by c None full k = record {
        last = p;
        ends = record { call = c.call; is_call = c.is_call; world = None; allowed = full; ends = refl };
        kept = kept;
      }
      by c (Some w) begins k =
          let x = end_there d w k in
          record {
            last = record (with_place p place w) { world = x.last };
            ends = record {
              call = c.call;
              is_call = c.is_call;
              world = Some w;
              allowed = begins;
              ends = (x.last, x.ends, refl);
            };
            kept = x.kept;
          }

  record PlacesThere (p : Play) (places : List ℕ) : Type 0 where
    last : Play
    ends : EndsPlaces (with_locks d) calls p places last

  places_there : (places : List ℕ) (p : Play) → All (IsPlace (length calls)) places → IsKept d p.world → PlacesThere p places
  places_there [] p at kept = record { last = p; ends = refl }
  places_there (place ∷ places) p at kept =
      let x = place_there place p (number_of p place) (All-head (IsPlace (length calls)) place places at) kept in
      let rest = places_there places x.last (All-tail (IsPlace (length calls)) place places at) x.kept in
      record { last = rest.last; ends = (x.last, x.ends, rest.ends) }

-- the numbers from the first to the last of so many are places
in_range : (first count most : ℕ) → 1 ≤ first → first + count ≤ suc most → All (IsPlace most) (range_with_len first count)
in_range first zero most low high = All-nil (IsPlace most)
in_range first (suc count) most low high =
    All-cons (IsPlace most) first (range_with_len (first + 1) count) (low, omega (arith, high))
    (in_range (first + 1) count most (omega arith) (omega (arith, high)))

-- ---- a whole schedule

pub whole_schedules : WholeSchedulesAre
whole_schedules d calls order first kept fit places =
    let x = play_there d calls fit order first places kept in
    let p = play_after first x.mentions in
    let e = end_there d p.world x.kept in
    let range = in_range 1 (length calls) (length calls) (omega arith) (omega arith) in
    let q = places_there d calls fit (range_with_len 1 (length calls)) (in_state p e.last) range e.kept in (
      q.last,
      record { mentions = x.mentions; schedules = record { is_played = x.plays; rest = e.last; ends = e.ends; places = q.ends } },
    )
