-- Mentions of places: a place has its number, and goes.
use Rattle.std.proofs.Common.{◌≡◌, ℕ, ◌-◌, ◌<◌, List, [], ◌∷◌, ◌++◌, Option, Some, None, refl, sym, ap, subst, ◌∙◌}
use Rattle.std.specs.Prelude.{IsSome, IsSomeAnd, option_and_then, slice_get, slice_set}
use Rattle.std.proofs.lemmas.Option.{none-some, same_Some}
use Rattle.acc_base.specs.declared.machines.Call.{Call}
use Rattle.acc_base.specs.declared.machines.Reply.{Reply}
use Rattle.acc_base.specs.declared.machines.Transaction.{Transaction}
use Rattle.acc_base.specs.declared.machines.Transaction.TheVariants.{Forward, Undoing, Ended}
use Rattle.acc_base.specs.declared.machines.Turn.{Turn}
use Rattle.acc_base.specs.Items.{item_at, with_item}
use Rattle.acc_base.specs.Machine.{World, next_number, transaction_at, frame_in, reply_in, reply_at}
use Rattle.acc_base.specs.Plays.{Rules, Play, Told, Turns, IsStuck, IsOver, IsFull, number_of, with_place, Goes, Mentions}
use Rattle.acc_plain.specs.Turned.{IsUnfinished}
use Rattle.acc_player.specs.Players.{Comes, BeginsAt, CanStart}
use Rattle.acc_player.specs.Boards.{Opened, Opens, HasBegun}
use Rattle.acc_player.specs.Ways.{AreOrderly}
use Rattle.acc_player.proofs.Items.{set_is, item_is, unnumbered}

-- ---- turns

-- an unfinished one has no reply
pub unreplied : (t : ℕ) (w : World) → IsUnfinished t w → reply_at t w ≡ None
unreplied t w h = by (transaction_at t w.transactions) h
  where
    by : (o : Option Transaction) → IsSomeAnd o (λ x. IsSome (frame_in x)) → option_and_then reply_in o ≡ None
    by None k = absurd k
    by (Some (Forward f)) k = refl
    by (Some (Undoing f c)) k = refl
    by (Some (Ended r)) k = absurd cc

module _ (m : Rules) (place t : ℕ) (p : Play) where
  -- a transaction that has ended is told to be over
  pub over_goes : (reply : Reply) → reply_at t p.world ≡ Some reply → Goes m place t p (reply_at t p.world) (IsOver place, p)
  over_goes reply h = subst (λ (o : Option Reply). Goes m place t p o (IsOver place, p)) (sym h) refl

  -- what an unfinished transaction's turn is, is what is told
  pub open_goes : (x : Turn) (v : World) → IsUnfinished t p.world → m.turns p.world t (Some (x, v))
      → Goes m place t p (reply_at t p.world) (Turns place x, record p { world = v })
  open_goes x v unfinished turned =
      subst (λ (o : Option Reply). Goes m place t p o (Turns place x, record p { world = v })) (sym (unreplied t p.world unfinished))
      (record { turn = Some (x, v); allowed = turned; told = refl })

  -- one that has no turn is told to be stuck
  pub stuck_goes : (v : World) → reply_at t p.world ≡ None → m.turns p.world t None → v ≡ p.world
      → Goes m place t p (reply_at t p.world) (IsStuck place, record p { world = v })
  stuck_goes v none closed same =
      subst (λ (o : Option Reply). Goes m place t p o (IsStuck place, record p { world = v })) (sym none)
      (record { turn = None; allowed = closed; told = ap (λ (w : World). (IsStuck place, record p { world = w })) same })

-- ---- a place begins

-- a call that began could begin
pub could_start : (m : Rules) → AreOrderly m → (calls : List Call) (place : ℕ) (w v : World) (t : ℕ)
    → BeginsAt m calls place w (Some t) v → CanStart m calls place w
could_start m orderly calls place w v t b call is none = by b.world b.allowed b.comes
  where
    by : (o : Option World) → m.begins w b.call o → Comes w o (Some t) v → ⊥
    by None allowed comes = comes
    by (Some u) allowed comes =
        let same : b.call ≡ call = same_Some b.call call (sym b.is_call ∙ is) in
        none-some u (orderly.determined.begins w call None (Some u) none (subst (λ (x : Call). m.begins w x (Some u)) same allowed))

module _ (m : Rules) (calls : List Call) (place : ℕ) (p : Play) (above : 0 < place) where
  -- a place that has begun has its number
  pub has_begun : (t : ℕ) → slice_get p.numbers (place - 1) ≡ Some (Some t)
      → HasBegun m calls place p (number_of p place) (Some t) p
  has_begun t at =
      subst (λ (o : Option ℕ). HasBegun m calls place p o (Some t) p)
      (sym (ap (option_and_then (λ n. n)) (item_is place p.numbers (Some t) above at))) (refl, refl)

  -- one that hasn't begins with the next number
  pub begins_here : (q : Play) (t : ℕ) → slice_get p.numbers (place - 1) ≡ Some None → BeginsAt m calls place p.world (Some t) q.world
      → q.numbers ≡ slice_set p.numbers (place - 1) (Some t) → q.places ≡ p.places ++ place ∷ []
      → HasBegun m calls place p (number_of p place) (Some t) q
  begins_here q t at b numbers places =
      subst (λ (o : Option ℕ). HasBegun m calls place p o (Some t) q) (sym (unnumbered p place above at))
      (by b.world b.allowed b.comes)
    where
      by : (o : Option World) → m.begins p.world b.call o → Comes p.world o (Some t) q.world → Opens m calls place p (Some t) q
      by None allowed h = absurd h
      by (Some w) allowed h =
          let set_so : q.numbers ≡ with_item place (Some (next_number p.world)) p.numbers =
          numbers ∙ ap (λ (n : ℕ). slice_set p.numbers (place - 1) (Some n)) h.0
          ∙ sym (set_is place (Some (next_number p.world)) p.numbers above) in
          record {
            call = b.call;
            is_call = b.is_call;
            world = Some w;
            allowed = allowed;
            opened = (h.0, λ i. record { world = h.1 i; numbers = set_so i; places = places i });
          }

  -- or can't
  pub cannot_begin : (v : World) → slice_get p.numbers (place - 1) ≡ Some None → BeginsAt m calls place p.world None v
      → HasBegun m calls place p (number_of p place) None (record p { world = v })
  cannot_begin v at b =
      subst (λ (o : Option ℕ). HasBegun m calls place p o None (record p { world = v })) (sym (unnumbered p place above at))
      (by b.world b.allowed b.comes)
    where
      by : (o : Option World) → m.begins p.world b.call o → Comes p.world o None v → Opens m calls place p None (record p { world = v })
      by None allowed h = record {
        call = b.call;
        is_call = b.is_call;
        world = None;
        allowed = allowed;
        opened = ap (λ (w : World). record p { world = w }) h;
      }
      by (Some w) allowed h = absurd h

-- ---- a mention

-- what follows a place's number
abbrev pub Follows : Rules → ℕ → Option ℕ → Play → Told × Play → Type 0
Follows m place None q x = x ≡ (IsFull place, q)
Follows m place (Some t) q x = Goes m place t q (reply_at t q.world) x

module _ (m : Rules) (calls : List Call) (place : ℕ) (p q : Play) (x : Told × Play) where
  opened_goes : (call : Call) → item_at place calls ≡ Some call → (o : Option World) → m.begins p.world call o → (found : Option ℕ)
      → Opened place p o found q → Follows m place found q x → Mentions m calls place p None x
  opened_goes call is None allowed None h follows = record {
    call = call;
    is_call = is;
    world = None;
    allowed = allowed;
    opens = follows ∙ ap (λ (z : Play). (IsFull place, z)) h;
  }
  opened_goes call is None allowed (Some t) h follows = absurd h
  opened_goes call is (Some w) allowed None h follows = absurd h
  opened_goes call is (Some w) allowed (Some t) h follows = record {
    call = call;
    is_call = is;
    world = Some w;
    allowed = allowed;
    opens =
        subst (λ (k : ℕ). Goes m place k (with_place p place w) (reply_at k w) x) h.0
        (subst (λ (z : Play). Goes m place t z (reply_at t z.world) x) h.1 follows);
  }

  -- a place has its number, and then what follows
  pub mention_is : (found : Option ℕ) → HasBegun m calls place p (number_of p place) found q → Follows m place found q x
      → Mentions m calls place p (number_of p place) x
  mention_is found begun follows = by (number_of p place) begun
    where
      by : (o : Option ℕ) → HasBegun m calls place p o found q → Mentions m calls place p o x
      by None h = opened_goes h.call h.is_call h.world h.allowed found h.opened follows
      by (Some n) h =
          subst (λ (z : Play). Goes m place n z (reply_at n z.world) x) h.1
          (subst (λ (o : Option ℕ). Follows m place o q x) h.0 follows)
