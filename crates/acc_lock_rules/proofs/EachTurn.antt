-- In each state that is kept a transaction has its turn by the rules of locks, and a call begins or can't; and the state after is kept.
use Rattle.std.proofs.Common.{◌≡◌, ◌⊎◌, ◌<◌, ◌≤◌, inl, inr, ℕ, zero, suc, Bool, true, false, List, [], ◌∷◌, length}
use Rattle.std.proofs.Common.{Option, Some, None, refl, sym, ap, subst, ◌∙◌, arith, if◌then◌else◌}
use Rattle.std.specs.Prelude.{nat_lt, slice_get, IsSome, IsSomeAnd, IfSome, ◌≢◌}
use Rattle.std.proofs.lemmas.Bool.Decides.{nat_tests}
use Rattle.std.proofs.lemmas.Option.{none-some, same_Some}
use Rattle.acc_base.specs.declared.bounds.TheConstants.{MOST_EVENTS, MOST_UNFINISHED}
use Rattle.acc_base.specs.declared.designs.Design.{Design}
use Rattle.acc_base.specs.declared.designs.Side.{Side}
use Rattle.acc_base.specs.declared.designs.Side.TheVariants.{Next, Undo as UndoSide}
use Rattle.acc_base.specs.declared.machines.Call.{Call}
use Rattle.acc_base.specs.declared.machines.Cause.TheVariants.{Victim}
use Rattle.acc_base.specs.declared.machines.Event.TheVariants.{Begin, Abort}
use Rattle.acc_base.specs.declared.machines.Frame.{Frame}
use Rattle.acc_base.specs.declared.machines.Transaction.{Transaction}
use Rattle.acc_base.specs.declared.machines.Transaction.TheVariants.{Forward, Undoing, Ended}
use Rattle.acc_base.specs.declared.machines.Turn.{Turn}
use Rattle.acc_base.specs.declared.machines.Turn.TheVariants.{Blocked, Turned}
use Rattle.acc_base.specs.Locks.{IsStuck}
use Rattle.acc_base.specs.Machine.{World, transaction_at, unfinished, frame_in, call_fits, with_begun, after_event}
use Rattle.acc_base.specs.Turns.{turn_of}
use Rattle.acc_plain.specs.Turned.{IsUnfinished}
use Rattle.acc_machine.specs.Begun.{HasRoom}
use Rattle.acc_machine.specs.Holders.{IsHeldBack, TellsHolder}
use Rattle.acc_machine.specs.Kept.{IsKept}
use Rattle.acc_machine.specs.Turns.{IsFree, TellsHeldAt, IsHeldAt}
use Rattle.acc_machine.proofs.Going.{has_turn, turned_so, blocked_so, victim_so, held_comes}
use Rattle.acc_machine.proofs.Heldings.{held_at}
use Rattle.acc_machine.proofs.Keeping.{kept_after}
use Rattle.acc_machine.proofs.LawfulTurns.{turn_lawful}
use Rattle.acc_machine.proofs.Stucks.{forward_by, not_forward, held_by, not_held, stuck_from, held_in}
use Rattle.acc_lock_rules.specs.LockRules.{BeginsWithRoom, TurnsByLocks}
use Rattle.acc_lock_rules.proofs.Rooms.{no_room_when_full, no_room_in_a_crowd}
use Rattle.acc_lock_rules.proofs.Blockers.{holder}
use Rattle.acc_player.specs.Endings.{after_turn}

-- a turn that the rules of locks allow, or word that there is none, after which the state is kept
pub record HasTurn (d : Design) (w : World) (t : ℕ) : Type 0 where
  pub turn : Option (Turn × World)
  pub allowed : TurnsByLocks d w t turn
  pub kept : IsKept d (after_turn w turn)

-- the begin of a call that they allow, or word that there is no room
pub record HasBegin (d : Design) (w : World) (call : Call) : Type 0 where
  pub world : Option World
  pub allowed : BeginsWithRoom d w call world
  pub kept : IfSome world (IsKept d)

less_or_not : (m n : ℕ) → (m < n) ⊎ (n ≤ m)
less_or_not m n = by (nat_lt m n) refl
  where
    by : (b : Bool) → nat_lt m n ≡ b → (m < n) ⊎ (n ≤ m)
    by true e = let l : m < n = grind (arith, nat_tests) in inl l
    by false e = let l : n ≤ m = grind (arith, nat_tests) in inr l

module _ (d : Design) (w : World) (kept : IsKept d w) where
  -- ---- who is held back

  back_or_not : (g : Frame) (j : ℕ) → slice_get (unfinished w) j ≡ Some g → IsHeldBack d w g ⊎ ¬ IsHeldBack d w g
  back_or_not g j at = by g.side refl
    where
      told : (o : Option (ℕ × ℕ)) → g.side ≡ Next → TellsHolder d w g o → IsHeldBack d w g ⊎ ¬ IsHeldBack d w g
      told None side h = inr (not_held d w kept.good.steady g h)
      told (Some x) side h = inl (held_by d w kept.good.steady g x (forward_by d w kept.good.steady g (j, at) side) h)

      by : (side : Side) → g.side ≡ side → IsHeldBack d w g ⊎ ¬ IsHeldBack d w g
      by Next side = let h = holder d w kept g in told h.0 side h.1
      by UndoSide side = inr (λ h. not_forward d w kept.good.steady g h.0 side)

  -- one of the frames that isn't
  record OneLoose (fs : List Frame) : Type 0 where
    j : ℕ
    frame : Frame
    at : slice_get fs j ≡ Some frame
    loose : ¬ IsHeldBack d w frame

  abbrev AllBack : List Frame → Type 0
  AllBack fs = (j : ℕ) (g : Frame) → slice_get fs j ≡ Some g → IsHeldBack d w g

  one_more : (g : Frame) (fs : List Frame) → IsHeldBack d w g ⊎ ¬ IsHeldBack d w g → AllBack fs ⊎ OneLoose fs
      → AllBack (g ∷ fs) ⊎ OneLoose (g ∷ fs)
  one_more g fs (inr loose) rest = inr (record { j = 0; frame = g; at = refl; loose = loose })
  one_more g fs (inl held) (inr o) = inr (record { j = suc o.j; frame = o.frame; at = o.at; loose = o.loose })
  one_more g fs (inl held) (inl all) = inl each
    where
      each : AllBack (g ∷ fs)
      each zero f at = subst (IsHeldBack d w) (same_Some g f at) held
      each (suc j) f at = all j f at

  all_back : (fs : List Frame) → ((j : ℕ) (g : Frame) → slice_get fs j ≡ Some g → IsHeldBack d w g ⊎ ¬ IsHeldBack d w g)
      → AllBack fs ⊎ OneLoose fs
  all_back [] told = inl (λ j g at. absurd (none-some g at))
  all_back (g ∷ fs) told = one_more g fs (told 0 g refl) (all_back fs (λ j f at. told (suc j) f at))

  stuck_or_not : IsStuck d w ⊎ ¬ IsStuck d w
  stuck_or_not = by (unfinished w) refl
    where
      told : unfinished w ≢ [] → AllBack (unfinished w) ⊎ OneLoose (unfinished w) → IsStuck d w ⊎ ¬ IsStuck d w
      told some (inl all) = inl (stuck_from d w kept.good.steady some all)
      told some (inr o) = inr (λ stuck. o.loose (held_in d w kept.good.steady stuck o.j o.frame o.at))

      by : (fs : List Frame) → unfinished w ≡ fs → IsStuck d w ⊎ ¬ IsStuck d w
      by [] none = inr (λ stuck. stuck.some none)
      by (f ∷ fs) is =
          told (λ none. let not : f ∷ fs ≡ [] = sym is ∙ none in cc)
          (all_back (unfinished w) (λ j g at. back_or_not g j at))

  -- ---- a turn

  module _ (t : ℕ) where
    abbrev Unfinished : Option Transaction → Type 0
    Unfinished o = IsSomeAnd o (λ x. IsSome (frame_in x))

    no_turn : (o : Option Transaction) → transaction_at t w.transactions ≡ o → ¬ Unfinished o → HasTurn d w t
    no_turn o is closed = record { turn = None; allowed = λ open_t. closed (subst Unfinished is open_t); kept = kept }

    -- nobody blocks it
    goes_on : (x : Transaction) → transaction_at t w.transactions ≡ Some x → IsUnfinished t w → IsFree d w t → HasTurn d w t
    goes_on x is open_t free = by (turn_of d w t) refl
      where
        by : (o : Option (Turn × World)) → turn_of d w t ≡ o → HasTurn d w t
        by None e = absurd (has_turn d w t kept open_t free e)
        by (Some y) e =
            let l = turn_lawful d w y.1 kept.good.steady t y.0 x is e free in
            record {
              turn = Some y;
              allowed = turned_so d w t kept open_t free y.1 y.0 e;
              kept = kept_after d d w y.1 l.event kept refl l.lawful;
            }

    -- another blocks it
    is_held : (found : ℕ × ℕ) → IsHeldAt d w t found → IsStuck d w ⊎ ¬ IsStuck d w → HasTurn d w t
    is_held found held (inl stuck) =
        let c = held_comes d w t found held stuck in
        record {
          turn = Some (Turned Victim, c.after);
          allowed = victim_so d w t found held c.after stuck c.lawful.event;
          kept = kept_after d d w c.after (Abort t Victim) kept refl c.lawful;
        }
    is_held found held (inr loose) = record {
      turn = Some (Blocked found.0 found.1, w);
      allowed = blocked_so d w t found held loose;
      kept = kept;
    }

    forward_turn : (f : Frame) → transaction_at t w.transactions ≡ Some (Forward f) → HasTurn d w t
    forward_turn f is =
        let h = holder d w kept f in
        by h.0
        (held_at d w kept.good.steady t f h.0 number
        (subst (λ k. transaction_at k w.transactions ≡ Some (Forward f)) (sym number) is) h.1)
      where
        number : f.t ≡ t
        number = (kept.good.steady.each t (Forward f) is).number

        by : (o : Option (ℕ × ℕ)) → TellsHeldAt d w t o → HasTurn d w t
        by None free = goes_on (Forward f) is (subst Unfinished (sym is) refl) free
        by (Some x) held = is_held x held stuck_or_not

    pub its_turn : HasTurn d w t
    its_turn = by (transaction_at t w.transactions) refl
      where
        by : (o : Option Transaction) → transaction_at t w.transactions ≡ o → HasTurn d w t
        by None is = no_turn None is (λ h. h)
        by (Some (Ended reply)) is = no_turn (Some (Ended reply)) is (λ h. cc)
        by (Some (Forward f)) is = forward_turn f is
        by (Some (Undoing f c)) is =
            goes_on (Undoing f c) is (subst Unfinished (sym is) refl)
            (λ g at stop. let not : Some (Undoing f c) ≡ Some (Forward g) = sym is ∙ at in cc)

  -- ---- a begin

  room_or_not : HasRoom w ⊎ ¬ HasRoom w
  room_or_not = by (less_or_not (length w.events) MOST_EVENTS) (less_or_not (length (unfinished w)) MOST_UNFINISHED)
    where
      by : (length w.events < MOST_EVENTS) ⊎ (MOST_EVENTS ≤ length w.events)
          → (length (unfinished w) < MOST_UNFINISHED) ⊎ (MOST_UNFINISHED ≤ length (unfinished w)) → HasRoom w ⊎ ¬ HasRoom w
      by (inl few) (inl open_few) = inl (few, open_few)
      by (inl few) (inr many) = inr (no_room_in_a_crowd w many)
      by (inr many) crowd = inr (no_room_when_full w many)

  pub its_begin : (call : Call) → call_fits (slice_get d.types call.ty) call ≡ true → HasBegin d w call
  its_begin call fits = by room_or_not
    where
      begins : after_event d w (Begin call) ≡ Some (with_begun d w call)
      begins = ap (λ (b : Bool). if b then Some (with_begun d w call) else None) fits

      by : HasRoom w ⊎ ¬ HasRoom w → HasBegin d w call
      by (inl room) = record {
        world = Some (with_begun d w call);
        allowed = (room, begins);
        kept = kept_after d d w (with_begun d w call) (Begin call) kept refl (record { leave = room; event = begins });
      }
      by (inr full) = record { world = None; allowed = full; kept = tt }
