-- A play at which a mention stops is on the way to the one after the whole of it.
use Rattle.std.proofs.Common.{◌≡◌, inl, inr, ℕ, List, Option, Some, None, refl, sym, ap, subst, ◌∙◌}
use Rattle.std.proofs.lemmas.Option.{same_Some}
use Rattle.acc_base.specs.declared.machines.Call.{Call}
use Rattle.acc_base.specs.declared.machines.Reply.{Reply}
use Rattle.acc_base.specs.declared.machines.Turn.{Turn}
use Rattle.acc_base.specs.Machine.{World, next_number, reply_at}
use Rattle.acc_base.specs.Plays.{Rules, Play, Told, number_of, with_place, told_turn, TakesTurn, Goes, Opens as GoesOpened, Mentions}
use Rattle.acc_plain.specs.Turned.{IsUnfinished}
use Rattle.acc_player.specs.Players.{MayTurn}
use Rattle.acc_player.specs.Boards.{Opened, HasBegun, IsAfterGoing, IsAfterBegin, IsAfterMention}
use Rattle.acc_player.specs.Ways.{AreOrderly, PlayPrecedes, PlayPrecedesEach}
use Rattle.acc_player.proofs.Mentioning.{unreplied, Follows}
use Rattle.acc_player.proofs.Onward.{same_play_precedes, play_precedes_more, world_precedes, place_precedes, alike_precedes}

module _ (m : Rules) (orderly : AreOrderly m) where
  -- ---- turns

  told_precedes : (place t : ℕ) (p : Play) (o : Option (Turn × World)) → m.turns p.world t o → PlayPrecedes p (told_turn place p o).1
  told_precedes place t p None closed = same_play_precedes p p refl
  told_precedes place t p (Some x) turned = world_precedes p x.1 (orderly.turns p.world x.1 t x.0 turned)

  goes_precedes : (place t : ℕ) (p : Play) (o : Option Reply) (x : Told × Play) → Goes m place t p o x → PlayPrecedes p x.1
  goes_precedes place t p (Some reply) x h = same_play_precedes p x.1 (ap (λ (z : Told × Play). z.1) h)
  goes_precedes place t p None x h =
      subst (λ (z : Told × Play). PlayPrecedes p z.1) (sym h.told) (told_precedes place t p h.turn h.allowed)

  pub before_going : (place t : ℕ) (p : Play) → PlayPrecedesEach p (IsAfterGoing m place t p)
  before_going place t p later h = goes_precedes place t p (reply_at t p.world) (h.told, later) h.goes

  pub front_going : (place t : ℕ) (p : Play) (now : World) → IsUnfinished t p.world → MayTurn m p.world t now
      → PlayPrecedesEach (record p { world = now }) (IsAfterGoing m place t p)
  front_going place t p now unfinished (inl same) later h =
      subst (λ (w : World). PlayPrecedes (record p { world = w }) later) (sym same) (before_going place t p later h)
  front_going place t p now unfinished (inr turned) later h =
      let k : TakesTurn m place t p (h.told, later) =
      subst (λ (o : Option Reply). Goes m place t p o (h.told, later)) (unreplied t p.world unfinished) h.goes in
      let one = orderly.determined.turns p.world t k.turn (Some (turned.0, now)) k.allowed turned.1 in
      same_play_precedes (record p { world = now }) later
      (ap (λ (z : Told × Play). z.1) (k.told ∙ ap (told_turn place p) one))

  pub follows_precedes : (place : ℕ) (found : Option ℕ) (q : Play) (x : Told × Play) → Follows m place found q x → PlayPrecedes q x.1
  follows_precedes place None q x h = same_play_precedes q x.1 (ap (λ (z : Told × Play). z.1) h)
  follows_precedes place (Some t) q x h = goes_precedes place t q (reply_at t q.world) x h

  module _ (calls : List Call) (place : ℕ) (p : Play) where
    -- ---- a place has its number

    opened_precedes : (q : Play) (call : Call) (o : Option World) (found : Option ℕ) → number_of p place ≡ None
        → m.begins p.world call o → Opened place p o found q → PlayPrecedes p q
    opened_precedes q call None None free allowed h = same_play_precedes p q h
    opened_precedes q call None (Some t) free allowed h = absurd h
    opened_precedes q call (Some w) None free allowed h = absurd h
    opened_precedes q call (Some w) (Some t) free allowed h =
        subst (PlayPrecedes p) (sym h.1) (place_precedes p place w free (orderly.begins p.world w call allowed))

    pub begun_precedes : (q : Play) (found : Option ℕ) → HasBegun m calls place p (number_of p place) found q → PlayPrecedes p q
    begun_precedes q found begun = by (number_of p place) refl begun
      where
        by : (o : Option ℕ) → number_of p place ≡ o → HasBegun m calls place p o found q → PlayPrecedes p q
        by (Some n) is h = same_play_precedes p q h.1
        by None is h = opened_precedes q h.call h.world found is h.allowed h.opened

    -- it has one number, and there is one play then
    one_opened : (q r : Play) (o : Option World) (found other : Option ℕ) → Opened place p o found q → Opened place p o other r
        → (found ≡ other) × (q ≡ r)
    one_opened q r None None None h k = (refl, h ∙ sym k)
    one_opened q r None None (Some u) h k = absurd k
    one_opened q r None (Some t) other h k = absurd h
    one_opened q r (Some w) None other h k = absurd h
    one_opened q r (Some w) (Some t) None h k = absurd k
    one_opened q r (Some w) (Some t) (Some u) h k = (ap Some (h.0 ∙ sym k.0), h.1 ∙ sym k.1)

    pub one_begun : (q r : Play) (o found other : Option ℕ) → HasBegun m calls place p o found q → HasBegun m calls place p o other r
        → (found ≡ other) × (q ≡ r)
    one_begun q r (Some n) found other h k = (h.0 ∙ sym k.0, h.1 ∙ sym k.1)
    one_begun q r None found other h k =
        let same_call : h.call ≡ k.call = same_Some h.call k.call (sym h.is_call ∙ k.is_call) in
        let same_world : h.world ≡ k.world =
        orderly.determined.begins p.world k.call h.world k.world (subst (λ (c : Call). m.begins p.world c h.world) same_call h.allowed)
        k.allowed in
        one_opened q r k.world found other (subst (λ (w : Option World). Opened place p w found q) same_world h.opened) k.opened

    pub before_begin : PlayPrecedesEach p (IsAfterBegin m calls place p)
    before_begin later h = begun_precedes later h.found h.begun

    -- the play now has the state and the numbers of the one in which the place has its number
    pub behind_begin : (q now : Play) (found : Option ℕ) → HasBegun m calls place p (number_of p place) found q → q.world ≡ now.world
        → q.numbers ≡ now.numbers → PlayPrecedesEach now (IsAfterBegin m calls place p)
    behind_begin q now found begun world numbers later h =
        let one = one_begun q later (number_of p place) found h.found begun h.begun in
        subst (PlayPrecedes now) one.1 (alike_precedes now q world numbers)

    -- ---- a mention

    -- a mention is that the place has its number, and what follows
    pub record Begun (o : Option ℕ) (x : Told × Play) : Type 0 where
      pub found : Option ℕ
      pub opened : Play
      pub begun : HasBegun m calls place p o found opened
      pub follows : Follows m place found opened x

    pub mention_begun : (o : Option ℕ) (x : Told × Play) → Mentions m calls place p o x → Begun o x
    mention_begun (Some n) x h = record { found = Some n; opened = p; begun = (refl, refl); follows = h }
    mention_begun None x h = by h.world h.allowed h.opens
      where
        by : (o : Option World) → m.begins p.world h.call o → GoesOpened m place p o x → Begun None x
        by None allowed k = record {
          found = None;
          opened = p;
          begun = record { call = h.call; is_call = h.is_call; world = None; allowed = allowed; opened = refl };
          follows = k;
        }
        by (Some w) allowed k = record {
          found = Some (next_number p.world);
          opened = with_place p place w;
          begun = record { call = h.call; is_call = h.is_call; world = Some w; allowed = allowed; opened = (refl, refl) };
          follows = k;
        }

    pub front_begun : (now : Play) → PlayPrecedesEach now (IsAfterBegin m calls place p)
        → PlayPrecedesEach now (IsAfterMention m calls place p)
    front_begun now front later h =
        let b = mention_begun (number_of p place) (h.told, later) h.mentions in
        play_precedes_more now b.opened later (front b.opened (record { found = b.found; begun = b.begun }))
        (follows_precedes place b.found b.opened (h.told, later) b.follows)

    -- what follows the number that the place has
    follows_begun : (q later : Play) (found : Option ℕ) → HasBegun m calls place p (number_of p place) found q
        → (h : IsAfterMention m calls place p later) → Follows m place found q (h.told, later)
    follows_begun q later found begun h =
        let b = mention_begun (number_of p place) (h.told, later) h.mentions in
        let one = one_begun b.opened q (number_of p place) b.found found b.begun begun in
        subst (λ (o : Option ℕ). Follows m place o q (h.told, later)) one.0
        (subst (λ (z : Play). Follows m place b.found z (h.told, later)) one.1 b.follows)

    pub front_opened : (q : Play) (found : Option ℕ) → HasBegun m calls place p (number_of p place) found q
        → PlayPrecedesEach q (IsAfterMention m calls place p)
    front_opened q found begun later h = follows_precedes place found q (h.told, later) (follows_begun q later found begun h)

    pub front_mentioned : (t : ℕ) (q now : Play) → HasBegun m calls place p (number_of p place) (Some t) q
        → PlayPrecedesEach now (IsAfterGoing m place t q) → PlayPrecedesEach now (IsAfterMention m calls place p)
    front_mentioned t q now begun front later h =
        front later (record { told = h.told; goes = follows_begun q later (Some t) begun h })
