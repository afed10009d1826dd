-- What is left of a whole pass, order or list of places, where some of it is done: on a machine that may do one thing only in each state,
-- each whole goes on from there. So a state on the way to what comes next is on the way to each whole.
use Rattle.std.proofs.Common.{◌≡◌, ℕ, zero, suc, ◌+◌, ◌<◌, ◌⊎◌, inl, inr, List, [], ◌∷◌, length, drop, get_or, Some, refl, sym, ap, subst}
use Rattle.std.proofs.Common.{◌∙◌, arith, add-one, drop-cons}
use Rattle.std.specs.Prelude.{◌≢◌, slice_get}
use Rattle.std.specs.List.{range_with_len}
use Rattle.std.proofs.lemmas.Option.{slice_get-get_or, same_Some}
use Rattle.acc_base.specs.declared.machines.Call.{Call}
use Rattle.acc_base.specs.Machine.{World, unfinished}
use Rattle.acc_base.specs.Plays.{Rules, Play, Told, number_of, Mentions, PlaysOn, play_after}
use Rattle.acc_player.specs.Boards.{IsAfterMention}
use Rattle.acc_player.specs.Endings.{after_turn, TurnsEach, unfinished_numbers, EndsAll, EndsPlace, EndsPlaces, Takes}
use Rattle.acc_player.specs.Schedules.{IsAfterOrder}
use Rattle.acc_player.specs.Ways.{AreOrderly, Precedes, PlayPrecedes, PrecedesEach, PlayPrecedesEach}
use Rattle.acc_player.proofs.OnePlay.{Turned, turned, one_pass, Passed, Over, passed, one_mention, one_place}
use Rattle.acc_player.proofs.Onward.{precedes_more, play_precedes_more}
use Rattle.acc_player.proofs.Wholes.{pass_precedes, ends_precede, order_precedes, places_precede}

abbrev pub LeavesTurns : Rules → World → List ℕ → World → List ℕ → Type 0
LeavesTurns m was all here left = (v : World) → TurnsEach m was all v → TurnsEach m here left v

abbrev pub LeavesEnds : Rules → World → World → Type 0
LeavesEnds m was here = (v : World) → EndsAll m was v → EndsAll m here v

abbrev pub LeavesPlay : Rules → List Call → Play → List ℕ → Play → List ℕ → Type 0
LeavesPlay m calls first order here left = (q : Play) → IsAfterOrder m calls order first q → IsAfterOrder m calls left here q

abbrev pub LeavesPlaces : Rules → List Call → Play → List ℕ → Play → List ℕ → Type 0
LeavesPlaces m calls first all here left = (q : Play) → EndsPlaces m calls first all q → EndsPlaces m calls here left q

module _ (m : Rules) (orderly : AreOrderly m) where
  -- ---- passes

  next_turn : (old v : World) (t : ℕ) (left : List ℕ) → TurnsEach m old (t ∷ left) v
      → Turned m orderly.determined old (t ∷ left) v
  next_turn old v t left h = turned m orderly.determined old v (t ∷ left) h

  pub leaves_turns : (was old new : World) (all left : List ℕ) (t : ℕ) → LeavesTurns m was all old (t ∷ left) → Takes m old t new
      → LeavesTurns m was all new left
  leaves_turns was old new all left t so_far takes v h =
      let next = next_turn old v t left (so_far v h) in
      let same : next.0 ≡ takes.turn = orderly.determined.turns old t next.0 takes.turn next.1 takes.allowed in
      subst (λ (w : World). TurnsEach m w left v) (ap (after_turn old) same ∙ sym takes.after) next.2

  pub stops_turns : (was old now : World) (all left : List ℕ) (t : ℕ) → LeavesTurns m was all old (t ∷ left)
      → PrecedesEach now (Takes m old t) → PrecedesEach now (TurnsEach m was all)
  stops_turns was old now all left t so_far front v h =
      let next = next_turn old v t left (so_far v h) in
      let after = after_turn old next.0 in
      precedes_more now after v (front after (record { turn = next.0; allowed = next.1; after = refl }))
      (pass_precedes m orderly after v left next.2)

  next_pass : (old v : World) → EndsAll m old v
      → Over m orderly.determined old v ⊎ Passed m orderly.determined old v
  next_pass old v h = passed m orderly.determined old v h

  pub leaves_ends : (was old new : World) → LeavesEnds m was old → unfinished old ≢ []
      → TurnsEach m old (unfinished_numbers old) new → LeavesEnds m was new
  leaves_ends was old new so_far some turned_so v h = by (next_pass old v (so_far v h))
    where
      by : Over m orderly.determined old v ⊎ Passed m orderly.determined old v
          → EndsAll m new v
      by (inl over) = absurd (some over.0)
      by (inr next) =
          let same : next.0 ≡ new =
          one_pass m orderly.determined (unfinished_numbers old) old next.0 new next.2 turned_so in
          subst (λ (w : World). EndsAll m w v) same next.3

  pub stops_ends : (was old now : World) → LeavesEnds m was old → unfinished old ≢ []
      → PrecedesEach now (TurnsEach m old (unfinished_numbers old)) → PrecedesEach now (EndsAll m was)
  stops_ends was old now so_far some front v h = by (next_pass old v (so_far v h))
    where
      by : Over m orderly.determined old v ⊎ Passed m orderly.determined old v → Precedes now v
      by (inl over) = absurd (some over.0)
      by (inr next) = precedes_more now next.0 v (front next.0 next.2) (ends_precede m orderly next.0 v next.3)

  module _ (calls : List Call) where
    -- ---- mentions

    -- the next mention, and those behind it
    record Mentioned (old : Play) (place : ℕ) (left : List ℕ) (q : Play) : Type 0 where
      x : Told × Play
      mentions : Mentions m calls place old (number_of old place) x
      rest : List (Told × Play)
      plays : PlaysOn m calls x.1 left rest
      ends : q ≡ play_after x.1 rest

    next_mention : (old : Play) (place : ℕ) (left : List ℕ) (q : Play) → IsAfterOrder m calls (place ∷ left) old q
        → Mentioned old place left q
    next_mention old place left q h = by h.mentions h.plays h.ends
      where
        by : (xs : List (Told × Play)) → PlaysOn m calls old (place ∷ left) xs → q ≡ play_after old xs
            → Mentioned old place left q
        by [] plays ends = absurd plays
        by (x ∷ xs) plays ends = record { x = x; mentions = plays.0; rest = xs; plays = plays.1; ends = ends }

    pub leaves_play : (first old : Play) (order left : List ℕ) (place : ℕ) (x : Told × Play)
        → LeavesPlay m calls first order old (place ∷ left)
        → Mentions m calls place old (number_of old place) x → LeavesPlay m calls first order x.1 left
    leaves_play first old order left place x so_far mentions q h =
        let next = next_mention old place left q (so_far q h) in
        let same : next.x ≡ x =
        one_mention m orderly.determined calls place old (number_of old place) next.x x next.mentions mentions in
        subst (λ (z : Told × Play). IsAfterOrder m calls left z.1 q) same
        (record { mentions = next.rest; plays = next.plays; ends = next.ends })

    pub stops_play : (first old now : Play) (order left : List ℕ) (place : ℕ) → LeavesPlay m calls first order old (place ∷ left)
        → PlayPrecedesEach now (IsAfterMention m calls place old) → PlayPrecedesEach now (IsAfterOrder m calls order first)
    stops_play first old now order left place so_far front q h =
        let next = next_mention old place left q (so_far q h) in
        subst (PlayPrecedes now) (sym next.ends)
        (play_precedes_more now next.x.1 (play_after next.x.1 next.rest)
        (front next.x.1 (record { told = next.x.0; mentions = next.mentions }))
        (order_precedes m orderly calls next.x.1 left next.rest next.plays))

    -- ---- places

    pub leaves_places : (first old new : Play) (all left : List ℕ) (place : ℕ) → LeavesPlaces m calls first all old (place ∷ left)
        → EndsPlace m calls place old (number_of old place) new → LeavesPlaces m calls first all new left
    leaves_places first old new all left place so_far ends q h =
        let next = so_far q h in
        let same : next.0 ≡ new =
        one_place m orderly.determined calls place old (number_of old place) next.0 new next.1 ends in
        subst (λ (z : Play). EndsPlaces m calls z left q) same next.2

    pub stops_places : (first old now : Play) (all left : List ℕ) (place : ℕ) → LeavesPlaces m calls first all old (place ∷ left)
        → PlayPrecedesEach now (EndsPlace m calls place old (number_of old place))
        → PlayPrecedesEach now (EndsPlaces m calls first all)
    stops_places first old now all left place so_far front q h =
        let next = so_far q h in
        play_precedes_more now next.0 q (front next.0 next.1) (places_precede m orderly calls left next.0 q next.2)

-- the item here and those behind it
pub split_at : (numbers : List ℕ) (i t : ℕ) → i < length numbers → slice_get numbers i ≡ Some t → drop i numbers ≡ t ∷ drop (i + 1) numbers
split_at numbers i t within here =
    let is_t : get_or numbers i 0 ≡ t = same_Some (get_or numbers i 0) t (sym (slice_get-get_or numbers i 0 within) ∙ here) in
    let first : drop i numbers ≡ get_or numbers i 0 ∷ drop (i + 1) numbers = rw (add-one, drop-cons numbers i 0) in
    first ∙ ap (λ (n : ℕ). n ∷ drop (i + 1) numbers) is_t

-- the first place of those that are left, and those behind it
pub range_from : (a n i : ℕ) → i < n → drop i (range_with_len a n) ≡ (a + i) ∷ drop (i + 1) (range_with_len a n)
range_from a zero i less = absurd (omega (arith, less))
range_from a (suc n) zero less = let e : a ≡ a + 0 = omega arith in ap (λ (z : ℕ). z ∷ range_with_len (a + 1) n) e
range_from a (suc n) (suc i) less =
    let place : a + 1 + i ≡ a + suc i = omega arith in
    let behind : drop (i + 1) (range_with_len (a + 1) n) ≡ drop (suc i + 1) (range_with_len a (suc n)) =
    ap (λ (k : ℕ). drop k (range_with_len (a + 1) n)) (add-one i)
    ∙ ap (λ (k : ℕ). drop k (range_with_len a (suc n))) (sym (add-one (suc i))) in
    range_from (a + 1) n i (omega (arith, less)) ∙ (λ j. place j ∷ behind j)
