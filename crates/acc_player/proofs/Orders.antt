-- Plays on any machine, mention by mention, and the replies after them.
use Rattle.std.proofs.Common.{◌≡◌, ℕ, ◌+◌, List, [], ◌∷◌, ◌++◌, length, refl}
use Rattle.std.proofs.Common.{sym, ap, subst, ◌∙◌, append_assoc, zero, suc, arith}
use Rattle.std.specs.List.{flat_map, range_with_len}
use Rattle.std.proofs.lemmas.Grind.{flat_map-append}
use Rattle.std.proofs.lemmas.List.{append-nil}
use Rattle.acc_base.specs.declared.machines.Call.{Call}
use Rattle.acc_base.specs.Plays.{Rules, Play, Told, number_of, Mentions, PlaysOn, play_after}
use Rattle.acc_base.specs.Machine.{World}
use Rattle.acc_player.specs.Endings.{EndsAll, EndsPlaces}
use Rattle.acc_player.specs.Schedules.{in_state, IsPlayed, IsRun}

-- ---- the order, place by place

-- what is done so far, and then a play of the places that are left, is a play of the whole
pub record IsPlayedSoFar (m : Rules) (text_of : Told × Play → List ℕ) (calls : List Call) (first : Play) (order left text : List ℕ)
    (p : Play)
    : Type 0 where
  pub mentions : List (Told × Play)
  pub text_is : text ≡ flat_map text_of mentions
  pub now : play_after first mentions ≡ p
  pub whole : (later : List (Told × Play)) → PlaysOn m calls p left later → PlaysOn m calls first order (mentions ++ later)

-- nothing is done, where the play opens
pub opens_play : (m : Rules) (text_of : Told × Play → List ℕ) (calls : List Call) (first : Play) (order text : List ℕ) (p : Play)
    → text ≡ [] → p ≡ first → IsPlayedSoFar m text_of calls first order order text p
opens_play m text_of calls first order text p empty opens = record {
  mentions = [];
  text_is = empty;
  now = sym opens;
  whole = λ later h. subst (λ (q : Play). PlaysOn m calls q order later) opens h;
}

after_last : (p : Play) (xs : List (Told × Play)) (x : Told × Play) → play_after p (xs ++ x ∷ []) ≡ x.1
after_last p [] x = refl
after_last p (y ∷ ys) x = after_last y.1 ys x

pub played_more : (m : Rules) (text_of : Told × Play → List ℕ) (calls : List Call) (first : Play) (order left old new : List ℕ)
    (place : ℕ) (p : Play) (x : Told × Play)
    → IsPlayedSoFar m text_of calls first order (place ∷ left) old p → Mentions m calls place p (number_of p place) x
    → new ≡ old ++ text_of x → IsPlayedSoFar m text_of calls first order left new x.1
played_more m text_of calls first order left old new place p x so_far mention text =
    record {
      mentions = so_far.mentions ++ x ∷ [];
      text_is = text ∙ ap (λ (z : List ℕ). z ++ text_of x) so_far.text_is ∙ sym
          (flat_map-append text_of so_far.mentions (x ∷ []) ∙ ap (λ (z : List ℕ). flat_map text_of so_far.mentions ++ z)
          (append-nil (text_of x)));
      now = after_last first so_far.mentions x;
      whole = λ later h. subst (PlaysOn m calls first order) (sym (append_assoc so_far.mentions (x ∷ []) later))
          (so_far.whole (x ∷ later) (mention, h));
    }

-- ---- the replies, place by place

pub range_more : (a n : ℕ) → range_with_len a (suc n) ≡ range_with_len a n ++ (a + n) ∷ []
range_more a zero = let e : a ≡ a + 0 = omega arith in ap (λ (z : ℕ). z ∷ []) e
range_more a (suc n) =
    let e : (a + 1) + n ≡ a + suc n = omega arith in
    ap (λ (zs : List ℕ). a ∷ zs) (range_more (a + 1) n ∙ ap (λ (z : ℕ). range_with_len (a + 1) n ++ z ∷ []) e)

-- the mentions of a whole order
pub played : (m : Rules) (text_of : Told × Play → List ℕ) (calls : List Call) (first : Play) (order text : List ℕ) (p : Play)
    → IsPlayedSoFar m text_of calls first order [] text p → IsPlayed m text_of calls first order text p
played m text_of calls first order text p so_far = record {
  mentions = so_far.mentions;
  is_played = subst (PlaysOn m calls first order) (append-nil so_far.mentions) (so_far.whole [] tt);
  text_is = so_far.text_is;
  now = so_far.now;
}

-- a schedule's parts, put together: the play after the mentions, the state after the passes, and the play after the places
pub runs_so : (m : Rules) (text_of : Told × Play → List ℕ) (calls : List Call) (first : Play) (order told text : List ℕ) (p : Play)
    (rest : World) (r : Play)
    → IsPlayed m text_of calls first order told p → EndsAll m p.world rest
    → EndsPlaces m calls (in_state p rest) (range_with_len 1 (length calls)) r → text ≡ told → IsRun m text_of calls first order text r
runs_so m text_of calls first order told text p rest r played ends places same = record {
  mentions = played.mentions;
  schedules = record {
    is_played = played.is_played;
    rest = rest;
    ends = subst (λ (z : Play). EndsAll m z.world rest) (sym played.now) ends;
    places = subst (λ (z : Play). EndsPlaces m calls (in_state z rest) (range_with_len 1 (length calls)) r) (sym played.now) places;
  };
  text_is = same ∙ played.text_is;
}
