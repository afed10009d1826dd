-- The unfinished transactions in a list, and by their numbers.
use Rattle.std.proofs.Common.{◌≡◌, ℕ, zero, suc, ◌+◌, ◌-◌, ◌<◌, List, [], ◌∷◌, refl, sym, ap, subst, ◌∙◌, arith, Option, Some, None}
use Rattle.std.specs.Prelude.{slice_get}
use Rattle.std.specs.List.{filter_map, cons_option}
use Rattle.std.proofs.lemmas.Option.{same_Some, none-some}
use Rattle.acc_base.specs.declared.designs.Design.{Design}
use Rattle.acc_base.specs.declared.machines.Frame.{Frame}
use Rattle.acc_base.specs.declared.machines.Transaction.{Transaction}
use Rattle.acc_base.specs.Machine.{World, frame_in, unfinished}
use Rattle.acc_base.specs.Locks.{frame_at}
use Rattle.acc_base.specs.Invariant.{IsSteady}
use Rattle.acc_lift.proofs.Transactions.{at_number, at_place, opened, frame_from}
use Rattle.acc_lift.proofs.Becoming.{stands_at}

-- a place of a list that has this frame
pub record At (fs : List Frame) (g : Frame) : Type 0 where
  pub j : ℕ
  pub is : slice_get fs j ≡ Some g

-- an unfinished transaction stands in the list of them
listed : (ts : List Transaction) (k : ℕ) (x : Transaction) (g : Frame) → slice_get ts k ≡ Some x → frame_in x ≡ Some g
    → At (filter_map frame_in ts) g
listed [] k x g h e = absurd (none-some x h)
listed (y ∷ ts) zero x g h e =
    let f : frame_in y ≡ Some g = ap frame_in (same_Some y x h) ∙ e in
    record { j = 0; is = ap (λ o. slice_get (cons_option o (filter_map frame_in ts)) 0) f }
listed (y ∷ ts) (suc k) x g h e = by (frame_in y) (listed ts k x g h e)
  where
    by : (o : Option Frame) → At (filter_map frame_in ts) g → At (cons_option o (filter_map frame_in ts)) g
    by None a = a
    by (Some f) a = record { j = suc a.j; is = a.is }

-- the frame at place i of the unfinished ones is that of transaction k, from 0; each one below k stands before i
record Placed (ts : List Transaction) (i : ℕ) (g : Frame) : Type 0 where
  k : ℕ
  x : Transaction
  at : slice_get ts k ≡ Some x
  frame : frame_in x ≡ Some g
  fewer : (l : ℕ) (y : Transaction) (f : Frame) → l < k → slice_get ts l ≡ Some y → frame_in y ≡ Some f
      → (j : ℕ) × (j < i) × (slice_get (filter_map frame_in ts) j ≡ Some f)

placed : (ts : List Transaction) (i : ℕ) (g : Frame) → slice_get (filter_map frame_in ts) i ≡ Some g → Placed ts i g
placed [] i g h = absurd (none-some g h)
placed (x ∷ ts) i g h = by (frame_in x) refl i h (λ j e. placed ts j g e)
  where
    over_none : frame_in x ≡ None → (i : ℕ) → Placed ts i g → (l : ℕ) (y : Transaction) (f : Frame) → l < suc (zero)
        → slice_get (x ∷ ts) l ≡ Some y → frame_in y ≡ Some f → ⊥
    over_none q i p zero y f a e b = none-some f (sym q ∙ (ap frame_in (same_Some x y e) ∙ b))
    over_none q i p (suc l) y f a e b = absurd (omega arith)

    skipped : frame_in x ≡ None → (i : ℕ) (p : Placed ts i g) (l : ℕ) (y : Transaction) (f : Frame) → l < suc p.k
        → slice_get (x ∷ ts) l ≡ Some y → frame_in y ≡ Some f → (j : ℕ) × (j < i) × (slice_get (filter_map frame_in ts) j ≡ Some f)
    skipped q i p zero y f a e b = absurd (over_none q i p zero y f (omega arith) e b)
    skipped q i p (suc l) y f a e b = p.fewer l y f (omega arith) e b

    behind : (z : Frame) → frame_in x ≡ Some z → (i : ℕ) (p : Placed ts i g) (l : ℕ) (y : Transaction) (f : Frame) → l < suc p.k
        → slice_get (x ∷ ts) l ≡ Some y → frame_in y ≡ Some f → (j : ℕ) × (j < suc i) × (slice_get (z ∷ filter_map frame_in ts) j ≡ Some f)
    behind z q i p zero y f a e b = (0, omega arith, sym q ∙ (ap frame_in (same_Some x y e) ∙ b))
    behind z q i p (suc l) y f a e b = let m = p.fewer l y f (omega arith) e b in let n = m.1 in (suc m.0, omega arith, m.2)

    move : (o : Option Frame) → frame_in x ≡ o → (i : ℕ) (k : ℕ) (y : Transaction) → slice_get (x ∷ ts) k ≡ Some y → frame_in y ≡ Some g
        → ((l : ℕ) (y : Transaction) (f : Frame) → l < k → slice_get (x ∷ ts) l ≡ Some y → frame_in y ≡ Some f
        → (j : ℕ) × (j < i) × (slice_get (cons_option o (filter_map frame_in ts)) j ≡ Some f)) → Placed (x ∷ ts) i g
    move o q i k y a b c =
        record {
          k = k;
          x = y;
          at = a;
          frame = b;
          fewer =
              subst (λ z. (l : ℕ) (y : Transaction) (f : Frame) → l < k → slice_get (x ∷ ts) l ≡ Some y → frame_in y ≡ Some f
              → (j : ℕ) × (j < i) × (slice_get (cons_option z (filter_map frame_in ts)) j ≡ Some f)) (sym q) c;
        }

    by : (o : Option Frame) → frame_in x ≡ o → (i : ℕ) → slice_get (cons_option o (filter_map frame_in ts)) i ≡ Some g
        → ((j : ℕ) → slice_get (filter_map frame_in ts) j ≡ Some g → Placed ts j g) → Placed (x ∷ ts) i g
    by None q i e ih = let p = ih i e in move None q i (suc p.k) p.x p.at p.frame (skipped q i p)
    by (Some z) q zero e ih = move (Some z) q 0 0 x refl (q ∙ e) (λ l y f a m n. absurd (omega arith))
    by (Some z) q (suc i) e ih = let p = ih i e in move (Some z) q (suc i) (suc p.k) p.x p.at p.frame (behind z q i p)

module _ (d : Design) (w : World) (steady : IsSteady d w) where
  -- by its number
  pub number_listed : (u : ℕ) (g : Frame) → frame_at u w ≡ Some g → At (unfinished w) g
  number_listed u g h = let o = opened u w g h in listed w.transactions (u - 1) o.x g (at_place u w.transactions o.x o.at).1 o.frame

  -- the number of the one at a place, and those with lower numbers stand before it
  pub record OfNumber (i : ℕ) (g : Frame) : Type 0 where
    pub frame : frame_at g.t w ≡ Some g
    pub fewer : (u : ℕ) (f : Frame) → u < g.t → frame_at u w ≡ Some f → (j : ℕ) × (j < i) × (slice_get (unfinished w) j ≡ Some f)

  pub of_number : (i : ℕ) (g : Frame) → slice_get (unfinished w) i ≡ Some g → OfNumber i g
  of_number i g h =
      let p = placed w.transactions i g h in
      let at : frame_at (p.k + 1) w ≡ Some g = frame_from (p.k + 1) w g p.x (at_number w.transactions p.k ∙ p.at) p.frame in
      let t : g.t ≡ p.k + 1 = (stands_at d w steady (p.k + 1) g at).stands.number in
      record {
        frame = subst (λ n. frame_at n w ≡ Some g) (sym t) at;
        fewer = λ u f l e. let o = opened u w f e in let q = at_place u w.transactions o.x o.at in let z =
            q.0 in p.fewer (u - 1) o.x f (omega arith) q.1 o.frame;
      }
