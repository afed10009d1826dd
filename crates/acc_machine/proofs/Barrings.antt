-- Who bars a step over the unfinished transactions is who blocks it.
use Rattle.std.proofs.Common.{◌≡◌, ℕ, inl, inr, subst, refl, Bool, true, false, if◌then◌else◌, Option, Some, None}
use Rattle.std.specs.Prelude.{nat_lt, slice_get}
use Rattle.acc_base.specs.declared.steps.Target.{Target}
use Rattle.acc_base.specs.declared.steps.Target.TheVariants.{Point as ToPoint, Commit, Undone, Refuse}
use Rattle.acc_base.specs.declared.designs.Design.{Design}
use Rattle.acc_base.specs.declared.designs.Side.TheVariants.{Next}
use Rattle.acc_base.specs.declared.machines.Cause.TheVariants.{Asked, Limit}
use Rattle.acc_base.specs.declared.machines.Frame.{Frame}
use Rattle.acc_base.specs.Reads.{Reading}
use Rattle.acc_base.specs.Effects.{Effect, Goes, Refuses, OutOfRange, effect_of}
use Rattle.acc_base.specs.Entries.{at_of}
use Rattle.acc_base.specs.Machine.{World, unfinished, stop_of, stop_by, is_asked, limit_of}
use Rattle.acc_base.specs.Locks.{frame_at, ClashesAfter, BlocksEffect, IsBlockedBy}
use Rattle.acc_base.specs.Invariant.{IsSteady}
use Rattle.acc_lift.proofs.Becoming.{stands_at}
use Rattle.acc_plain.specs.Outlooks.{outlook_of}
use Rattle.acc_lock_index.specs.Indexed.{ClashesWith, BarsStep}
use Rattle.acc_machine.specs.HeldUp.{locals_of}
use Rattle.acc_machine.specs.Holders.{TellsHolder}
use Rattle.acc_machine.specs.Barred.{led_to, led_by, BarsFrame, TellsBarred}
use Rattle.acc_machine.proofs.Places.{number_listed, of_number}

-- a step that goes on, or ends
abbrev GoesOn : Effect → Type 0
GoesOn (Goes db s i to) = Unit {0}
GoesOn (Refuses s m) = ⊥
GoesOn OutOfRange = ⊥

goes_on : (a b : Bool) (E : Effect) → (if a then Some Asked else (if b then stop_by E else Some Limit)) ≡ None → GoesOn E
goes_on true b E h = cc
goes_on false false E h = cc
goes_on false true (Goes db s i to) h = tt
goes_on false true (Refuses s m) h = cc
goes_on false true OutOfRange h = cc

-- ---- one holder

module _ (d : Design) (f h : Frame) (n : ℕ) where
  clash_after : (s : Reading) (to : Target) → ClashesWith d (led_to f.ty to) s.locals h n → ClashesAfter d f h n s to
  clash_after s (ToPoint p) c = c
  clash_after s Commit c = c
  clash_after s Undone c = c
  clash_after s (Refuse m) c = c

  after_clash : (s : Reading) (to : Target) → ClashesAfter d f h n s to → ClashesWith d (led_to f.ty to) s.locals h n
  after_clash s (ToPoint p) c = c
  after_clash s Commit c = c
  after_clash s Undone c = c
  after_clash s (Refuse m) c = c

  abbrev BarsBy : Effect → Type 0
  BarsBy E = BarsStep d (at_of f) (locals_of E) (led_by f.ty (outlook_of E)) (locals_of E) h n

  bars_blocks : (E : Effect) → GoesOn E → BarsBy E → BlocksEffect d f h n E
  bars_blocks (Goes db s i to) g (inl b) = inl b
  bars_blocks (Goes db s i to) g (inr c) = inr (clash_after s to c)
  bars_blocks (Refuses s m) g b = absurd g
  bars_blocks OutOfRange g b = absurd g

  blocks_bars : (E : Effect) → BlocksEffect d f h n E → BarsBy E
  blocks_bars (Goes db s i to) (inl b) = inl b
  blocks_bars (Goes db s i to) (inr c) = inr (after_clash s to c)
  blocks_bars (Refuses s m) b = inl b
  blocks_bars OutOfRange b = absurd b

-- ---- all of the unfinished

module _ (d : Design) (w : World) (steady : IsSteady d w) (f : Frame) where
  blocked_bars : (h n : ℕ) → IsBlockedBy d w f h n → BarsFrame d w.rows (unfinished w) f h n
  blocked_bars h n b =
      let a = number_listed d w steady h b.holder b.is_holder in
      record {
        holder = b.holder;
        among = (a.j, a.is);
        number = (stands_at d w steady h b.holder b.is_holder).stands.number;
        other = b.other;
        bars = blocks_bars d f b.holder n (effect_of d w.rows f Next) b.blocks;
      }

  bars_blocked : stop_of d w.rows f ≡ None → (h n : ℕ) → BarsFrame d w.rows (unfinished w) f h n → IsBlockedBy d w f h n
  bars_blocked free h n b =
      let o = of_number d w steady b.among.0 b.holder b.among.1 in
      record {
        holder = b.holder;
        is_holder = subst (λ k. frame_at k w ≡ Some b.holder) b.number o.frame;
        other = b.other;
        blocks = bars_blocks d f b.holder n (effect_of d w.rows f Next)
            (goes_on (is_asked f.ask f.steps) (nat_lt f.steps (limit_of (slice_get d.types f.ty))) (effect_of d w.rows f Next) free) b.bars;
      }

  pub barred_holder : (r : Option (ℕ × ℕ)) → TellsBarred d w.rows (unfinished w) f r → TellsHolder d w f r
  barred_holder None k = λ free h n b. k.first free h n (blocked_bars h n b)
  barred_holder (Some x) k =
      let free = k.free refl in
      let first = k.first free in (
        free,
        record {
          blocked = bars_blocked free x.0 x.1 first.0;
          holder = λ u m l b. first.1 u m l (blocked_bars u m b);
          entry = λ m l b. first.2 m l (blocked_bars x.0 m b);
        },
      )
