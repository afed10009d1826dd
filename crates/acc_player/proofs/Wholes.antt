-- States and plays on the way to those after a pass, an order, places and a whole schedule.
use Rattle.std.proofs.Common.{◌≡◌, inl, inr, ℕ, List, [], ◌∷◌, length, Option, Some, None, refl, sym, ap, subst, ◌∙◌}
use Rattle.std.specs.List.{range_with_len}
use Rattle.std.proofs.lemmas.List.{append-nil}
use Rattle.acc_base.specs.declared.machines.Call.{Call}
use Rattle.acc_base.specs.declared.machines.Event.{Event}
use Rattle.acc_base.specs.declared.machines.Turn.{Turn}
use Rattle.acc_base.specs.Machine.{World, next_number}
use Rattle.acc_base.specs.Plays.{Rules, Play, Told, number_of, with_place, Mentions, PlaysOn, play_after}
use Rattle.acc_player.specs.Boards.{HasBegun, IsAfterBegin}
use Rattle.acc_player.specs.Endings.{after_turn, TurnsEach, none, turns, unfinished_numbers, EndsAll, ended, pass, Takes}
use Rattle.acc_player.specs.Endings.{EndsBegun, BeginsAndEnds, EndsPlace, EndsPlaces}
use Rattle.acc_player.specs.Players.{MayTurn}
use Rattle.acc_player.specs.Schedules.{in_state, Schedules, IsPlayed, IsAfterOrder, IsAfterSchedule, IsFrontOfSchedule}
use Rattle.acc_player.specs.Ways.{AreOrderly, Precedes, PlayPrecedes, PrecedesEach, PlayPrecedesEach}
use Rattle.acc_player.proofs.OnePlay.{one_play, one_end, one_ending}
use Rattle.acc_player.proofs.Onward.{same_precedes, precedes_more, same_play_precedes, play_precedes_more, world_precedes, alike_precedes}
use Rattle.acc_player.proofs.Leading.{begun_precedes, follows_precedes, mention_begun, one_begun}

pub after_precedes : (m : Rules) (orderly : AreOrderly m) (w : World) (t : ℕ) (o : Option (Turn × World))
    → m.turns w t o → Precedes w (after_turn w o)
after_precedes m orderly w t None over = same_precedes w w refl
after_precedes m orderly w t (Some x) is = orderly.turns w x.1 t x.0 is

pub pass_precedes : (m : Rules) (orderly : AreOrderly m) (w v : World) (ts : List ℕ) → TurnsEach m w ts v → Precedes w v
pass_precedes m orderly w v ts none = same_precedes w w refl
pass_precedes m orderly w v ts (turns {t = t} {ts = rest} x allowed later) =
    precedes_more w (after_turn w x) v (after_precedes m orderly w t x allowed) (pass_precedes m orderly (after_turn w x) v rest later)

pub ends_precede : (m : Rules) (orderly : AreOrderly m) (w v : World) → EndsAll m w v → Precedes w v
ends_precede m orderly w v (ended over) = same_precedes w w refl
ends_precede m orderly w v (pass {u = u} some turned rest) =
    precedes_more w u v (pass_precedes m orderly w u (unfinished_numbers w) turned) (ends_precede m orderly u v rest)

module _ (m : Rules) (orderly : AreOrderly m) where
  -- what follows the number of a place that begins
  abbrev pub Ends : Option ℕ → Play → Play → Type 0
  Ends None q r = r ≡ q
  Ends (Some t) q r = (v : World) × EndsAll m q.world v × (r ≡ record q { world = v })

  pub end_precedes : (found : Option ℕ) (q r : Play) → Ends found q r → PlayPrecedes q r
  end_precedes None q r h = same_play_precedes q r h
  end_precedes (Some t) q r h = subst (PlayPrecedes q) (sym h.2) (world_precedes q h.0 (ends_precede m orderly q.world h.0 h.1))

  module _ (calls : List Call) where
    mention_precedes : (place : ℕ) (p : Play) (x : Told × Play) → Mentions m calls place p (number_of p place) x
        → PlayPrecedes p x.1
    mention_precedes place p x h =
        let b = mention_begun m orderly calls place p (number_of p place) x h in
        play_precedes_more p b.opened x.1 (begun_precedes m orderly calls place p b.opened b.found b.begun)
        (follows_precedes m orderly place b.found b.opened x b.follows)

    pub order_precedes : (p : Play) (order : List ℕ) (xs : List (Told × Play)) → PlaysOn m calls p order xs
        → PlayPrecedes p (play_after p xs)
    order_precedes p [] [] h = same_play_precedes p p refl
    order_precedes p [] (x ∷ xs) h = absurd h
    order_precedes p (place ∷ order) [] h = absurd h
    order_precedes p (place ∷ order) (x ∷ xs) h =
        play_precedes_more p x.1 (play_after x.1 xs) (mention_precedes place p x h.0) (order_precedes x.1 order xs h.1)

    -- ---- places that are ended

    pub record BegunToEnd (place : ℕ) (p r : Play) : Type 0 where
      pub found : Option ℕ
      pub opened : Play
      pub begun : HasBegun m calls place p None found opened
      pub ends : Ends found opened r

    pub place_begun : (place : ℕ) (p r : Play) → BeginsAndEnds m calls place p r → BegunToEnd place p r
    place_begun place p r h = by h.world h.allowed h.ends
      where
        by : (o : Option World) → m.begins p.world h.call o → EndsBegun m place p o r → BegunToEnd place p r
        by None allowed k = record {
          found = None;
          opened = p;
          begun = record { call = h.call; is_call = h.is_call; world = None; allowed = allowed; opened = refl };
          ends = k;
        }
        by (Some w) allowed k = record {
          found = Some (next_number p.world);
          opened = with_place p place w;
          begun = record { call = h.call; is_call = h.is_call; world = Some w; allowed = allowed; opened = (refl, refl) };
          ends = k;
        }

    pub ended_precedes : (place : ℕ) (p q : Play) → EndsPlace m calls place p (number_of p place) q → PlayPrecedes p q
    ended_precedes place p q ends = by (number_of p place) refl ends
      where
        by : (o : Option ℕ) → number_of p place ≡ o → EndsPlace m calls place p o q → PlayPrecedes p q
        by (Some t) is h = same_play_precedes p q h
        by None is h =
            let b = place_begun place p q h in
            play_precedes_more p b.opened q
            (begun_precedes m orderly calls place p b.opened b.found
            (subst (λ (o : Option ℕ). HasBegun m calls place p o b.found b.opened) (sym is) b.begun))
            (end_precedes b.found b.opened q b.ends)

    pub places_precede : (places : List ℕ) (p q : Play) → EndsPlaces m calls p places q → PlayPrecedes p q
    places_precede [] p q h = same_play_precedes p q h
    places_precede (place ∷ places) p q h =
        play_precedes_more p h.0 q (ended_precedes place p h.0 h.1) (places_precede places h.0 q h.2)

  -- ---- one schedule

  pub one_schedule :
      (calls : List Call) (first : Play) (order : List ℕ) (xs ys : List (Told × Play)) (p q : Play)
      → Schedules m calls first order xs p → Schedules m calls first order ys q
      → (xs ≡ ys) × (p ≡ q)
  one_schedule calls first order xs ys p q h k =
      let played : xs ≡ ys = one_play m orderly.determined calls first order xs ys h.is_played k.is_played in
      let after : play_after first xs ≡ play_after first ys = ap (play_after first) played in
      let rest : h.rest ≡ k.rest =
      one_end m orderly.determined (play_after first ys).world h.rest (subst (λ (z : Play). EndsAll m z.world h.rest) after h.ends)
      k.rest k.ends in
      let places =
      subst (λ (w : World). EndsPlaces m calls (in_state (play_after first ys) w) (range_with_len 1 (length calls)) p) rest
      (subst (λ (z : Play). EndsPlaces m calls (in_state z h.rest) (range_with_len 1 (length calls)) p) after h.places) in
      let last = in_state (play_after first ys) k.rest in
      (played, one_ending m orderly.determined calls (range_with_len 1 (length calls)) last p q places k.places)

  -- ---- stops

  pub front_taken : (old now : World) (t : ℕ) → MayTurn m old t now → PrecedesEach now (Takes m old t)
  front_taken old now t (inl same) later h =
      subst (λ (w : World). Precedes w later) (sym same)
      (subst (Precedes old) (sym h.after) (after_precedes m orderly old t h.turn h.allowed))
  front_taken old now t (inr turned) later h =
      let one = orderly.determined.turns old t h.turn (Some (turned.0, now)) h.allowed turned.1 in
      same_precedes now later (h.after ∙ ap (after_turn old) one)

  module _ (calls : List Call) where
    -- ---- places that are done

    -- what ends a place that hasn't begun
    ends_begun : (place : ℕ) (p later : Play) → number_of p place ≡ None
        → EndsPlace m calls place p (number_of p place) later
        → (found : Option ℕ) × (q : Play) × HasBegun m calls place p (number_of p place) found q × Ends found q later
    ends_begun place p later free h =
        let b = place_begun calls place p later (subst (λ (o : Option ℕ). EndsPlace m calls place p o later) free h) in
        (b.found, b.opened, subst (λ (o : Option ℕ). HasBegun m calls place p o b.found b.opened) (sym free) b.begun, b.ends)

    pub front_place : (place : ℕ) (p now : Play) → number_of p place ≡ None → PlayPrecedesEach now (IsAfterBegin m calls place p)
        → PlayPrecedesEach now (EndsPlace m calls place p (number_of p place))
    front_place place p now free front later h =
        let b = ends_begun place p later free h in
        play_precedes_more now b.1 later (front b.1 (record { found = b.0; begun = b.2 })) (end_precedes b.0 b.1 later b.3)

    pub front_ended : (place t : ℕ) (p q : Play) (now : World) → number_of p place ≡ None
        → HasBegun m calls place p (number_of p place) (Some t) q → PrecedesEach now (EndsAll m q.world)
        → PlayPrecedesEach (record q { world = now }) (EndsPlace m calls place p (number_of p place))
    front_ended place t p q now free begun front later h =
        let b = ends_begun place p later free h in
        let one = one_begun m orderly calls place p b.1 q (number_of p place) b.0 (Some t) b.2 begun in
        let ends : Ends (Some t) q later =
        subst (λ (o : Option ℕ). Ends o q later) one.0 (subst (λ (z : Play). Ends b.0 z later) one.1 b.3) in
        subst (PlayPrecedes (record q { world = now })) (sym ends.2)
        (world_precedes (record q { world = now }) ends.0 (front ends.0 ends.1))

    -- ---- a whole schedule

    module _ (order : List ℕ) (first : Play) where
      -- the passes and the places that follow the mentions
      pub rest_precedes : (xs : List (Told × Play)) (done : Play) → Schedules m calls first order xs done
          → PlayPrecedes (play_after first xs) done
      rest_precedes xs done s =
          let p = play_after first xs in
          play_precedes_more p (in_state p s.rest) done (world_precedes p s.rest (ends_precede m orderly p.world s.rest s.ends))
          (places_precede calls (range_with_len 1 (length calls)) (in_state p s.rest) done s.places)

      pub front_order : (now : Play) → PlayPrecedesEach now (IsAfterOrder m calls order first)
          → PlayPrecedesEach now (IsAfterSchedule m calls order first)
      front_order now front done h =
          let p = play_after first h.mentions in
          play_precedes_more now p done (front p (record { mentions = h.mentions; plays = h.schedules.is_played; ends = refl }))
          (rest_precedes h.mentions done h.schedules)

      pub before_schedule : PlayPrecedesEach first (IsAfterSchedule m calls order first)
      before_schedule =
          front_order first
          (λ later h. subst (PlayPrecedes first) (sym h.ends) (order_precedes calls first order h.mentions h.plays))

      module _ (text_of : Told × Play → List ℕ) (text : List ℕ) (p : Play)
          (played : IsPlayed m text_of calls first order text p) where
        -- what follows the mentions that were played
        ends_played : (done : Play) → IsAfterSchedule m calls order first done
            → (rest : World) × EndsAll m p.world rest
            × EndsPlaces m calls (in_state p rest) (range_with_len 1 (length calls)) done
        ends_played done h =
            let s = h.schedules in
            let same = one_play m orderly.determined calls first order h.mentions played.mentions s.is_played
            played.is_played in
            let after : play_after first h.mentions ≡ p = ap (play_after first) same ∙ played.now in (
              s.rest,
              subst (λ (z : Play). EndsAll m z.world s.rest) after s.ends,
              subst (λ (z : Play). EndsPlaces m calls (in_state z s.rest) (range_with_len 1 (length calls)) done) after
                  s.places,
            )

        pub front_passes : (now : World) → PrecedesEach now (EndsAll m p.world)
            → PlayPrecedesEach (in_state p now) (IsAfterSchedule m calls order first)
        front_passes now front done h =
            let rest = ends_played done h in
            play_precedes_more (in_state p now) (in_state p rest.0) done (world_precedes (in_state p now) rest.0 (front rest.0 rest.1))
            (places_precede calls (range_with_len 1 (length calls)) (in_state p rest.0) done rest.2)

        -- the places from the state after the passes on
        places_after : (w : World) → EndsAll m p.world w → (done : Play) → IsAfterSchedule m calls order first done
            → EndsPlaces m calls (in_state p w) (range_with_len 1 (length calls)) done
        places_after w ends done h =
            let rest = ends_played done h in
            let same : rest.0 ≡ w = one_end m orderly.determined p.world rest.0 rest.1 w ends in
            subst (λ (v : World). EndsPlaces m calls (in_state p v) (range_with_len 1 (length calls)) done) same rest.2

        pub front_places : (w : World) (now : Play) → EndsAll m p.world w
            → PlayPrecedesEach now (EndsPlaces m calls (in_state p w) (range_with_len 1 (length calls)))
            → PlayPrecedesEach now (IsAfterSchedule m calls order first)
        front_places w now ends front done h = front done (places_after w ends done h)

      -- ---- what is common with the whole schedule

      -- the play now has the state and the numbers of the one after a whole schedule
      pub behind_whole : (xs : List (Told × Play)) (last now : Play) → Schedules m calls first order xs last
          → last.world ≡ now.world → last.numbers ≡ now.numbers → PlayPrecedesEach now (IsAfterSchedule m calls order first)
      behind_whole xs last now s world numbers done h =
          let one = one_schedule calls first order xs h.mentions last done s h.schedules in
          subst (PlayPrecedes now) one.1 (alike_precedes now last world numbers)

      pub front_of_schedule : (now : Play) → PlayPrecedesEach now (IsAfterSchedule m calls order first)
          → IsFrontOfSchedule m calls order first now.world.events
      front_of_schedule now front done h = let on = (front done h).world in (on.more, on.history)

      pub whole_is_front : (xs : List (Told × Play)) (last : Play) (history : List Event) → Schedules m calls first order xs last
          → history ≡ last.world.events → IsFrontOfSchedule m calls order first history
      whole_is_front xs last history s is done h =
          let one = one_schedule calls first order h.mentions xs done last h.schedules s in
          ([], ap (λ (p : Play). p.world.events) one.1 ∙ sym is ∙ sym (append-nil history))
