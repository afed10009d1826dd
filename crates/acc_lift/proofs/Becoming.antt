-- A state in which one transaction has become another is steady, where the new one is kept and the rows are.
use Rattle.std.proofs.Common.{◌≡◌, ℕ, ◌+◌, ◌-◌, ◌*◌, ◌<◌, ◌≤◌, ◌^◌, ◌⊎◌, inl, inr, List, [], ◌∷◌, ◌++◌, length, Bool, true, false, sym}
use Rattle.std.proofs.Common.{subst, refl, ap, ◌∙◌, arith, Some, pos, length-append, length-set}
use Rattle.std.specs.Prelude.{All, Contains, ◌≢◌, ◌==◌, IsTrue, slice_get, option_and_then}
use Rattle.std.specs.List.{AllByRecursion}
use Rattle.std.proofs.lemmas.Option.{same_Some}
use Rattle.std.proofs.lemmas.Bool.Decides.{nat_tests}
use Rattle.std.proofs.lemmas.List.Elements.{All-weaker, All-contains, All-contains_itself, All-from_recursion}
use Rattle.acc_base.specs.declared.tables.Row.{Row}
use Rattle.acc_base.specs.declared.designs.Design.{Design}
use Rattle.acc_base.specs.declared.designs.Side.{Side}
use Rattle.acc_base.specs.declared.designs.Side.TheVariants.{Next, Undo as UndoSide}
use Rattle.acc_base.specs.declared.machines.Frame.{Frame}
use Rattle.acc_base.specs.declared.machines.Event.{Event}
use Rattle.acc_base.specs.declared.machines.Transaction.{Transaction}
use Rattle.acc_base.specs.declared.machines.Transaction.TheVariants.{Forward, Undoing, Ended}
use Rattle.acc_base.specs.Assertions.{Holds, Always}
use Rattle.acc_base.specs.Machine.{World, transaction_at, frame_in, became}
use Rattle.acc_base.specs.Fits.{RowsFit}
use Rattle.acc_base.specs.Entries.{at_of}
use Rattle.acc_base.specs.PrivateRows.{IsPrivateOf, type_puts}
use Rattle.acc_base.specs.Locks.{frame_at, AreCompatibleFrames}
use Rattle.acc_base.specs.Invariant.{Stands, IsKept, rest_of, IsOwnerOf, IsOwned, IsWithin, IsSteady}
use Rattle.acc_lift.proofs.Transactions.{at_place, at_set, set_new, set_old, sum_set, IsOpen, opened, frame_from}
use Rattle.acc_lift.proofs.Reserved.{compatible_turned}

pub number_cases : (a b : ℕ) → (a ≡ b) ⊎ (a ≢ b)
number_cases a b = by (a == b) refl
  where
    by : (c : Bool) → (a == b) ≡ c → (a ≡ b) ⊎ (a ≢ b)
    by true e = inl (grind (arith, nat_tests))
    by false e = inr (λ q. grind (arith, nat_tests))

pub longer : (events : List Event) (e : Event) → length (events ++ e ∷ []) ≡ length events + 1
longer events e = length-append events (e ∷ [])

pub weaker_bound : (m n : ℕ) (db : List Row) → m ≤ n → AllByRecursion (IsWithin m) db → AllByRecursion (IsWithin n) db
weaker_bound m n [] l h = tt
weaker_bound m n (r ∷ db) l h = ((λ c. let k = h.0 c in omega arith), weaker_bound m n db l h.1)

-- ---- what is known of an unfinished transaction

pub record StandsOn (d : Design) (db : List Row) (t : ℕ) (f : Frame) : Type 0 where
  pub side : Side
  pub stands : Stands d db t side f

pub kept_stands :
    (d : Design) (db : List Row) (t : ℕ) (f : Frame) (x : Transaction) → IsKept d db t x → frame_in x ≡ Some f → StandsOn d db t f
kept_stands d db t f (Forward g) k e = record { side = Next; stands = subst (Stands d db t Next) (same_Some g f e) k }
kept_stands d db t f (Undoing g c) k e = record { side = UndoSide; stands = subst (Stands d db t UndoSide) (same_Some g f e) k }
kept_stands d db t f (Ended r) k e = cc

pub stands_at : (d : Design) (w : World) → IsSteady d w → (t : ℕ) (f : Frame) → frame_at t w ≡ Some f → StandsOn d w.rows t f
stands_at d w steady t f h = let o = opened t w f h in kept_stands d w.rows t f o.x (steady.each t o.x o.at) o.frame

-- with other rows in which its assertion is true
still_kept :
    (d : Design) (db after : List Row) (t : ℕ) (x : Transaction) → IsKept d db t x → ((f : Frame) → frame_in x ≡ Some f → Holds d after f)
    → IsKept d after t x
still_kept d db after t (Forward f) k h = record { number = k.number; side_is = k.side_is; frame = k.frame; holds = h f refl }
still_kept d db after t (Undoing f c) k h = record { number = k.number; side_is = k.side_is; frame = k.frame; holds = h f refl }
still_kept d db after t (Ended r) k h = k

module _ (d : Design) (w : World) (steady : IsSteady d w) (e : Event) (t : ℕ) (x y : Transaction)
    (at : transaction_at t w.transactions ≡ Some x) (after : List Row) where
  -- what has to be known of the new transaction and the new rows
  pub record CanBecome : Type 0 where
    pub rows : RowsFit d after
    pub few : length after ≤ 16 * length w.events + 16
    pub always : Always d after
    pub kept : IsKept d after t y
    pub others : (u : ℕ) (g : Frame) → frame_at u w ≡ Some g → u ≢ t → Holds d after g
    pub fresh : (g : Frame) → frame_in y ≡ Some g → (u : ℕ) (h : Frame) → frame_at u w ≡ Some h → u ≢ t → AreCompatibleFrames d g h
    pub owned : All (IsOwned d w) after
    pub owner :
        (r : Row) → Contains after r → IsPrivateOf d (pos t) r → (f : Frame) → frame_in x ≡ Some f
        → IsTrue (type_puts r.table (slice_get d.types f.ty))
        → (g : Frame) × (frame_in y ≡ Some g) × IsTrue (type_puts r.table (slice_get d.types g.ty))
    pub bounded : AllByRecursion (IsWithin (2 ^ 45 * (1 + length w.events) + 2 ^ 45)) after
    pub falls : rest_of d y + 1 ≤ rest_of d x

  module _ (c : CanBecome) where
    abbrev new : World
    new = became w e t (after, y)

    from_one : 0 < t
    from_one = (at_place t w.transactions x at).0

    each_new : (u : ℕ) (z : Transaction) → transaction_at u new.transactions ≡ Some z → IsKept d after u z
    each_new u z h = by (at_set t u w.transactions y z from_one h)
      where
        by : ((u ≡ t) × (z ≡ y)) ⊎ ((u ≢ t) × (transaction_at u w.transactions ≡ Some z)) → IsKept d after u z
        by (inl k) = subst (λ v. IsKept d after v z) (sym k.0) (subst (IsKept d after t) (sym k.1) c.kept)
        by (inr k) = still_kept d w.rows after u z (steady.each u z k.1) (λ f q. c.others u f (frame_from u w f z k.1 q) k.0)

    -- a frame of the new state is the new transaction's, or stood before
    frame_cases : (u : ℕ) (g : Frame) → frame_at u new ≡ Some g → ((u ≡ t) × (frame_in y ≡ Some g)) ⊎ ((u ≢ t) × (frame_at u w ≡ Some g))
    frame_cases u g h = let o = opened u new g h in by o (at_set t u w.transactions y o.x from_one o.at)
      where
        by :
            (o : IsOpen u new g) → ((u ≡ t) × (o.x ≡ y)) ⊎ ((u ≢ t) × (transaction_at u w.transactions ≡ Some o.x))
            → ((u ≡ t) × (frame_in y ≡ Some g)) ⊎ ((u ≢ t) × (frame_at u w ≡ Some g))
        by o (inl k) = inl (k.0, ap frame_in (sym k.1) ∙ o.frame)
        by o (inr k) = inr (k.0, frame_from u w g o.x k.1 o.frame)

    compatible_new : (u v : ℕ) (g h : Frame) → frame_at u new ≡ Some g → frame_at v new ≡ Some h → u ≢ v → AreCompatibleFrames d g h
    compatible_new u v g h a b n = by (frame_cases u g a) (frame_cases v h b)
      where
        by :
            ((u ≡ t) × (frame_in y ≡ Some g)) ⊎ ((u ≢ t) × (frame_at u w ≡ Some g))
            → ((v ≡ t) × (frame_in y ≡ Some h)) ⊎ ((v ≢ t) × (frame_at v w ≡ Some h)) → AreCompatibleFrames d g h
        by (inl p) (inl q) = absurd (n (p.0 ∙ sym q.0))
        by (inl p) (inr q) = c.fresh g p.1 v h q.1 q.0
        by (inr p) (inl q) = compatible_turned d (at_of h) (at_of g) h.locals g.locals (c.fresh h q.1 u g p.1 p.0)
        by (inr p) (inr q) = steady.compatible u v g h p.1 q.1 n

    owned_new : (r : Row) → Contains after r → IsOwned d new r
    owned_new r m p = by (All-contains (IsOwned d w) after r c.owned m p)
      where
        split : (o : IsOwnerOf d w r) → (o.t ≡ t) ⊎ (o.t ≢ t) → IsOwnerOf d new r
        split o (inr n) =
            let z = opened o.t w o.owner o.is_owner in
            record {
              t = o.t;
              owner = o.owner;
              is_owner = frame_from o.t new o.owner z.x (set_old t o.t w.transactions y z.x from_one n z.at) z.frame;
              ends = o.ends;
              puts = o.puts;
            }
        split o (inl q) =
            let is : frame_at t w ≡ Some o.owner = subst (λ n. frame_at n w ≡ Some o.owner) q o.is_owner in
            let own : frame_in x ≡ Some o.owner = sym (ap (option_and_then frame_in) at) ∙ is in
            let ends : IsPrivateOf d (pos t) r = subst (λ n. IsPrivateOf d (pos n) r) q o.ends in
            let g = c.owner r m ends o.owner own o.puts in
            record { t = t; owner = g.0; is_owner = frame_from t new g.0 y (set_new t w.transactions x y at) g.1; ends = ends; puts = g.2 }

        by : IsOwnerOf d w r → IsOwnerOf d new r
        by o = split o (number_cases o.t t)

    pub becomes_steady : IsSteady d new
    becomes_steady = record {
      rows = c.rows;
      few = let a = c.few in let b = longer w.events e in omega arith;
      counted = let a = steady.counted in let b = longer w.events e in let l = length-set w.transactions (t - 1) y in omega arith;
      each = each_new;
      always = c.always;
      compatible = compatible_new;
      owned = All-weaker (Contains after) (IsOwned d new) owned_new after (All-contains_itself after);
      bounded =
          let l = longer w.events e in
          All-from_recursion (IsWithin (2 ^ 45 * (1 + length (w.events ++ e ∷ [])))) after
          (weaker_bound (2 ^ 45 * (1 + length w.events) + 2 ^ 45) (2 ^ 45 * (1 + length (w.events ++ e ∷ []))) after (omega arith)
          c.bounded);
      ends =
          let a = sum_set (rest_of d) w.transactions (t - 1) x y (at_place t w.transactions x at).1 in
          let b = steady.ends in
          let k = c.falls in
          let l = longer w.events e in
          omega arith;
    }
