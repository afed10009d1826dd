-- Where something is unfinished, a pass of the machine with locks makes an event.
use Rattle.std.proofs.Common.{◌≡◌, ℕ, ◌+◌, ◌<◌, ◌≤◌, inl, inr, List, [], ◌∷◌, ◌++◌, length, Option, Some, None, suc, refl, sym}
use Rattle.std.proofs.Common.{ap, subst, ◌∙◌, arith, length-append}
use Rattle.std.specs.Prelude.{IsSome, IsSomeAnd, map, option_and_then, slice_get}
use Rattle.std.proofs.lemmas.Option.{none-some, same_Some}
use Rattle.acc_base.specs.declared.bounds.TheConstants.{MOST_EVENTS}
use Rattle.acc_base.specs.declared.designs.Design.{Design}
use Rattle.acc_base.specs.declared.machines.Call.{Call}
use Rattle.acc_base.specs.declared.machines.Event.{Event}
use Rattle.acc_base.specs.declared.machines.Frame.{Frame}
use Rattle.acc_base.specs.declared.tables.Row.{Row}
use Rattle.acc_base.specs.declared.machines.Transaction.{Transaction}
use Rattle.acc_base.specs.declared.machines.Transaction.TheVariants.{Forward, Undoing, Ended}
use Rattle.acc_base.specs.declared.machines.Turn.{Turn}
use Rattle.acc_base.specs.Invariant.{IsSteady, IsGood}
use Rattle.acc_base.specs.Machine.{World, transaction_at, unfinished, frame_in, changed, became}
use Rattle.acc_base.specs.Turns.{next_event, said, said_of, turn_of}
use Rattle.acc_plain.specs.Turned.{IsUnfinished}
use Rattle.acc_machine.specs.Holders.{IsForward}
use Rattle.acc_machine.specs.Turns.{IsTurn, goes, victim, blocked}
use Rattle.acc_lock_rules.specs.LockRules.{with_locks, TurnsByLocks}
use Rattle.acc_lock_rules.specs.Passes.{Moves}
use Rattle.acc_lock_rules.proofs.Rooms.{full_when_over}
use Rattle.acc_lock_rules.proofs.Waiting.{Passes, passes_more, pass_goes_on}
use Rattle.acc_player.specs.Endings.{after_turn, TurnsEach, Lives, most_ever}
use Rattle.acc_player.proofs.OnePlay.{turned}
use Rattle.acc_lock_rules.proofs.Orderly.{victim_so, locks_are_orderly}

pub locks_full : (d : Design) (w : World) (call : Call) → (with_locks d).begins w call None → unfinished w ≡ []
    → MOST_EVENTS ≤ length w.events
locks_full d w call none over = full_when_over w none over

-- no machine with locks has more events
pub bounded : (d : Design) (w : World) → IsGood d w → length w.events ≤ most_ever
bounded d w good = let e = good.steady.ends in omega arith

one_more : (xs : List Event) (x : Event) → length xs < length (xs ++ x ∷ [])
one_more [] x = omega arith
one_more (y ∷ xs) x = let e = one_more xs x in omega arith

longer : (w v : World) (e : Event) → v.events ≡ w.events ++ e ∷ [] → length w.events < length v.events
longer w v e is = subst (λ (es : List Event). length w.events < length es) (sym is) (one_more w.events e)

-- a turn of the plain machine makes an event
turned_so : (d : Design) (w v : World) (t : ℕ) (x : Turn) → turn_of d w t ≡ Some (x, v)
    → IsUnfinished t w × ((e : Event) × (y : List Row × Transaction) × (became w e t y ≡ v))
turned_so d w v t x h = by_transaction (transaction_at t w.transactions) h
  where
    by_change : (e : Event) (o : Option (List Row × Transaction)) → said_of w e t o ≡ Some (x, v)
        → (e : Event) × (y : List Row × Transaction) × (became w e t y ≡ v)
    by_change e None k = absurd (none-some (x, v) k)
    by_change e (Some y) k = (e, y, ap (λ (z : Turn × World). z.1) (same_Some (said e y.1, became w e t y) (x, v) k))

    by_event : (o : Option Event)
        → option_and_then (λ e. said_of w e t (changed d w.rows e (transaction_at t w.transactions))) o ≡ Some (x, v)
        → (e : Event) × (y : List Row × Transaction) × (became w e t y ≡ v)
    by_event None k = absurd (none-some (x, v) k)
    by_event (Some e) k = by_change e (changed d w.rows e (transaction_at t w.transactions)) k

    by_transaction : (o : Option Transaction)
        → option_and_then (λ e. said_of w e t (changed d w.rows e (transaction_at t w.transactions))) (next_event d w.rows o) ≡ Some (x, v)
        → IsSomeAnd o (λ z. IsSome (frame_in z)) × ((e : Event) × (y : List Row × Transaction) × (became w e t y ≡ v))
    by_transaction None k = absurd (none-some (x, v) k)
    by_transaction (Some (Forward f)) k = (refl, by_event (next_event d w.rows (Some (Forward f))) k)
    by_transaction (Some (Undoing f c)) k = (refl, by_event (next_event d w.rows (Some (Undoing f c))) k)
    by_transaction (Some (Ended reply)) k = absurd (none-some (x, v) k)

-- the turn of one transaction
pub turn_moves : (d : Design) (w v : World) → IsSteady d w → (t : ℕ) (x : Turn) → IsTurn d w v t x → Moves d w t v
turn_moves d w v steady t x (goes y is free) =
    let so = turned_so d w v t y is in
    inl (longer w v so.1.0 (sym (ap (λ (z : World). z.events) so.1.2)))
turn_moves d w v steady t x (victim f at stuck is) =
    let so = victim_so d w v t is in
    inl (longer w v _ (sym (ap (λ (z : World). z.events) so.1)))
turn_moves d w v steady t x (blocked f h n at stop low loose same) =
    let number : f.t ≡ t = (steady.each t (Forward f) at).number in
    let here : IsForward w f = subst (λ k. transaction_at k w.transactions ≡ Some (Forward f)) (sym number) at in
    inr (same, λ _. record { frame = f; number = number; held = (here, stop, (h, n, low.blocked)); loose = loose })

moves_by : (d : Design) (w : World) → IsSteady d w → (t : ℕ) (o : Option (Turn × World)) → TurnsByLocks d w t o
    → Moves d w t (after_turn w o)
moves_by d w steady t None closed = inr (refl, λ u. absurd (closed u))
moves_by d w steady t (Some x) h = turn_moves d w x.1 steady t x.0 h

not_fewer : (d : Design) (w : World) (t : ℕ) (o : Option (Turn × World)) → TurnsByLocks d w t o
    → length w.events ≤ length (after_turn w o).events
not_fewer d w t None closed = omega arith
not_fewer d w t (Some x) h =
    let on = (locks_are_orderly d).turns w x.1 t x.0 h in
    let more = ap length on.history ∙ length-append w.events on.more in
    omega (arith, more)

module _ (d : Design) (was : World) (steady : IsSteady d was) where
  one_step : (w : World) (i : ℕ) (f : Frame) (o : Option (Turn × World)) → slice_get (unfinished was) i ≡ Some f
      → Passes d was (unfinished was) i w → TurnsByLocks d w f.t o → Passes d was (unfinished was) (i + 1) (after_turn w o)
  one_step w i f o at (inl l) h = let more = not_fewer d w f.t o h in inl (omega (arith, l, more))
  one_step w i f o at (inr l) h =
      subst (λ (z : World). TurnsByLocks d z f.t o → Passes d was (unfinished was) (i + 1) (after_turn z o)) (sym l.0)
      (λ k. passes_more d was was (after_turn was o) steady i f at (inr (refl, l.1)) (moves_by d was steady f.t o k)) h

  all_steps : (fs : List Frame) (i : ℕ) (w v : World)
      → ((j : ℕ) (f : Frame) → slice_get fs j ≡ Some f → slice_get (unfinished was) (i + j) ≡ Some f)
      → Passes d was (unfinished was) i w → TurnsEach (with_locks d) w (map (λ (f : Frame). f.t) fs) v
      → Passes d was (unfinished was) (i + length fs) v
  all_steps [] i w v listed so_far h =
      let same : w ≡ v = turned (with_locks d) (locks_are_orderly d).determined w v [] h in
      let zero_more : i ≡ i + 0 = omega arith in
      subst (λ (k : ℕ). Passes d was (unfinished was) k v) zero_more
      (subst (λ (z : World). Passes d was (unfinished was) i z) same so_far)
  all_steps (f ∷ fs) i w v listed so_far h =
      let first = turned (with_locks d) (locks_are_orderly d).determined w v (f.t ∷ map (λ (g : Frame). g.t) fs) h in
      let here : i + 0 ≡ i = omega arith in
      let at = subst (λ (k : ℕ). slice_get (unfinished was) k ≡ Some f) here (listed 0 f refl) in
      let one = one_step w i f first.0 at so_far first.1 in
      let later = all_steps fs (i + 1) (after_turn w first.0) v
      (λ j g there.
      let place : i + suc j ≡ i + 1 + j = omega arith in
      subst (λ (k : ℕ). slice_get (unfinished was) k ≡ Some g) place (listed (suc j) g there)) one first.2 in
      let many : i + 1 + length fs ≡ i + suc (length fs) = omega arith in
      subst (λ (k : ℕ). Passes d was (unfinished was) k v) many later

  pub locks_live : Lives (with_locks d) was
  locks_live some v h =
      let zero_on = λ (j : ℕ) (f : Frame) (there : slice_get (unfinished was) j ≡ Some f).
      let place : j ≡ 0 + j = omega arith in
      subst (λ (k : ℕ). slice_get (unfinished was) k ≡ Some f) place there
      in
      let all = all_steps (unfinished was) 0 was v zero_on (inr (refl, λ j f less there. absurd (omega (arith, less)))) h in
      pass_goes_on d was v (0 + length (unfinished was)) steady some (omega arith) all
