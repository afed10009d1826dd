-- Plays on the plain machine: how one is found, and that there is no other.
use Rattle.std.proofs.Common.{◌≡◌, ℕ, List, [], ◌∷◌, Option, Some, None, refl, sym, ap, subst, ◌∙◌}
use Rattle.std.specs.Prelude.{option_and_then, option_map}
use Rattle.acc_base.specs.declared.designs.Design.{Design}
use Rattle.acc_base.specs.declared.machines.Call.{Call}
use Rattle.acc_base.specs.declared.machines.Event.TheVariants.{Begin}
use Rattle.acc_base.specs.declared.machines.Reply.{Reply}
use Rattle.acc_base.specs.Items.{item_at}
use Rattle.acc_base.specs.Machine.{World, next_number, reply_at, after_event}
use Rattle.acc_base.specs.Turns.{turn_of}
use Rattle.acc_base.specs.Plays.{Rules, IsDetermined, plain, Play, Told, IsOver, opening, number_of, with_place, told_turn, TakesTurn}
use Rattle.acc_base.specs.Plays.{Goes, Opens, Begins, Mentions, PlaysOn, Plays}

-- ---- a play that is found

abbrev goes_on : Design → ℕ → ℕ → Play → Option Reply → Told × Play
goes_on d place t p (Some reply) = (IsOver place, p)
goes_on d place t p None = told_turn place p (turn_of d p.world t)

goes_so : (d : Design) (place t : ℕ) (p : Play) (reply : Option Reply) → Goes (plain d) place t p reply (goes_on d place t p reply)
goes_so d place t p (Some reply) = refl
goes_so d place t p None = record { turn = turn_of d p.world t; allowed = refl; told = refl }

abbrev opens_on : Design → ℕ → Play → World → Told × Play
opens_on d place p w = goes_on d place (next_number p.world) (with_place p place w) (reply_at (next_number p.world) w)

abbrev begins_on : Design → ℕ → Play → Option Call → Option (Told × Play)
begins_on d place p None = None
begins_on d place p (Some call) = option_map (opens_on d place p) (after_event d p.world (Begin call))

abbrev mentions_on : Design → List Call → ℕ → Play → Option ℕ → Option (Told × Play)
mentions_on d calls place p None = begins_on d place p (item_at place calls)
mentions_on d calls place p (Some t) = Some (goes_on d place t p (reply_at t p.world))

begins_so : (d : Design) (calls : List Call) (place : ℕ) (p : Play) (x : Told × Play) (o : Option Call) → item_at place calls ≡ o
    → begins_on d place p o ≡ Some x → Begins (plain d) calls place p x
begins_so d calls place p x None at e = absurd cc
begins_so d calls place p x (Some call) at e = by (after_event d p.world (Begin call)) refl e
  where
    by : (w : Option World) → after_event d p.world (Begin call) ≡ w → option_map (opens_on d place p) w ≡ Some x
        → Begins (plain d) calls place p x
    by None h k = absurd cc
    by (Some w) h k =
        let is : opens_on d place p w ≡ x = cc in
        record {
          call = call;
          is_call = at;
          world = Some w;
          allowed = (h, refl);
          opens = subst (Goes (plain d) place (next_number p.world) (with_place p place w) (reply_at (next_number p.world) w)) is
              (goes_so d place (next_number p.world) (with_place p place w) (reply_at (next_number p.world) w));
        }

mentions_so : (d : Design) (calls : List Call) (place : ℕ) (p : Play) (x : Told × Play) (o : Option ℕ)
    → mentions_on d calls place p o ≡ Some x → Mentions (plain d) calls place p o x
mentions_so d calls place p x None e = begins_so d calls place p x (item_at place calls) refl e
mentions_so d calls place p x (Some t) e =
    let is : goes_on d place t p (reply_at t p.world) ≡ x = cc in
    subst (Goes (plain d) place t p (reply_at t p.world)) is (goes_so d place t p (reply_at t p.world))

abbrev more : Told × Play → Option (List (Told × Play)) → Option (List (Told × Play))
more x o = option_map (λ (xs : List (Told × Play)). x ∷ xs) o

-- the mentions of an order, where each of its places has a call that fits
abbrev pub run : Design → List Call → Play → List ℕ → Option (List (Told × Play))
run d calls p [] = Some []
run d calls p (place ∷ order) = option_and_then (λ x. more x (run d calls x.1 order)) (mentions_on d calls place p (number_of p place))

-- the mentions that are found, and none where there are none
abbrev pub or_none : Option (List (Told × Play)) → List (Told × Play)
or_none None = []
or_none (Some xs) = xs

pub run_plays : (d : Design) (calls : List Call) (order : List ℕ) (p : Play) (xs : List (Told × Play)) → run d calls p order ≡ Some xs
    → PlaysOn (plain d) calls p order xs
run_plays d calls [] p [] e = tt
run_plays d calls [] p (x ∷ xs) e = absurd cc
run_plays d calls (place ∷ order) p xs e = first (mentions_on d calls place p (number_of p place)) refl e
    (λ q ys at. run_plays d calls order q ys at)
  where
    Later : Type 0
    Later = (q : Play) (ys : List (Told × Play)) → run d calls q order ≡ Some ys → PlaysOn (plain d) calls q order ys

    rest : (x : Told × Play) (o : Option (List (Told × Play))) → run d calls x.1 order ≡ o
        → mentions_on d calls place p (number_of p place) ≡ Some x → more x o ≡ Some xs → Later
        → PlaysOn (plain d) calls p (place ∷ order) xs
    rest x None at m k later = absurd cc
    rest x (Some ys) at m k later =
        let is : x ∷ ys ≡ xs = cc in
        subst (PlaysOn (plain d) calls p (place ∷ order)) is (mentions_so d calls place p x (number_of p place) m, later x.1 ys at)

    first : (o : Option (Told × Play)) → mentions_on d calls place p (number_of p place) ≡ o
        → option_and_then (λ x. more x (run d calls x.1 order)) o ≡ Some xs → Later → PlaysOn (plain d) calls p (place ∷ order) xs
    first None m k later = absurd cc
    first (Some x) m k later = rest x (run d calls x.1 order) refl m k later

-- ---- there is no other

plain_is_determined : (d : Design) → IsDetermined (plain d)
plain_is_determined d = record { begins = λ w call x y h k. sym h.0 ∙ k.0; turns = λ w t x y h k. sym h ∙ k }

module _ (m : Rules) (one : IsDetermined m) (calls : List Call) where
  one_turn : (place t : ℕ) (p : Play) (x y : Told × Play) → TakesTurn m place t p x → TakesTurn m place t p y → x ≡ y
  one_turn place t p x y h k = h.told ∙ ap (told_turn place p) (one.turns p.world t h.turn k.turn h.allowed k.allowed) ∙ sym k.told

  one_going : (place t : ℕ) (p : Play) (reply : Option Reply) (x y : Told × Play) → Goes m place t p reply x → Goes m place t p reply y
      → x ≡ y
  one_going place t p (Some reply) x y h k = h ∙ sym k
  one_going place t p None x y h k = one_turn place t p x y h k

  one_opening : (place : ℕ) (p : Play) (w : Option World) (x y : Told × Play) → Opens m place p w x → Opens m place p w y → x ≡ y
  one_opening place p None x y h k = h ∙ sym k
  one_opening place p (Some w) x y h k = one_going place (next_number p.world) (with_place p place w)
      (reply_at (next_number p.world) w) x y h k

  one_begin : (place : ℕ) (p : Play) (x y : Told × Play) → Begins m calls place p x → Begins m calls place p y → x ≡ y
  one_begin place p x y h k =
      let same_call : h.call ≡ k.call = by h.call k.call (sym h.is_call ∙ k.is_call) in
      let same_world : h.world ≡ k.world = one.begins p.world k.call h.world k.world
      (subst (λ (c : Call). m.begins p.world c h.world) same_call h.allowed) k.allowed in
      one_opening place p k.world x y (subst (λ (w : Option World). Opens m place p w x) same_world h.opens) k.opens
    where
      by : (a b : Call) → Some a ≡ Some b → a ≡ b
      by a b e = cc

  one_mention : (place : ℕ) (p : Play) (o : Option ℕ) (x y : Told × Play) → Mentions m calls place p o x → Mentions m calls place p o y
      → x ≡ y
  one_mention place p None x y h k = one_begin place p x y h k
  one_mention place p (Some t) x y h k = one_going place t p (reply_at t p.world) x y h k

  one_play : (p : Play) (order : List ℕ) (xs ys : List (Told × Play)) → PlaysOn m calls p order xs → PlaysOn m calls p order ys → xs ≡ ys
  one_play p [] [] [] h k = refl
  one_play p [] [] (y ∷ ys) h k = absurd k
  one_play p [] (x ∷ xs) ys h k = absurd h
  one_play p (place ∷ order) [] ys h k = absurd h
  one_play p (place ∷ order) (x ∷ xs) [] h k = absurd k
  one_play p (place ∷ order) (x ∷ xs) (y ∷ ys) h k =
      let same : x ≡ y = one_mention place p (number_of p place) x y h.0 k.0 in
      let rest : xs ≡ ys = one_play y.1 order xs ys (subst (λ (z : Told × Play). PlaysOn m calls z.1 order xs) same h.1) k.1 in
      λ i. same i ∷ rest i

pub plays_once : (d : Design) (calls : List Call) (order : List ℕ) (xs ys : List (Told × Play)) → Plays (plain d) calls order xs
    → Plays (plain d) calls order ys → xs ≡ ys
plays_once d calls order xs ys h k = one_play (plain d) (plain_is_determined d) calls (opening calls) order xs ys h k
