-- Lists of transactions, as one is put in place of another, dropped or added.
use Rattle.std.proofs.Common.{◌≡◌, ◌≢◌, ℕ, zero, suc, ◌<◌, ◌≤◌, ◌⊎◌, inl, inr, List, [], ◌∷◌, ◌++◌, length, set, sym, ap, subst, refl, ◌∙◌}
use Rattle.std.proofs.Common.{arith, Some}
use Rattle.std.specs.Prelude.{slice_get, remove}
use Rattle.std.proofs.lemmas.Option.{same_Some, none-some}
use Rattle.acc_base.specs.declared.designs.Design.{Design}
use Rattle.acc_base.specs.declared.machines.Frame.{Frame}
use Rattle.acc_lift.proofs.Transactions.{got_set, set_got, set_other, got_push, push_old}
use Rattle.acc_lock_index.specs.Indexed.{Standing, IsIn, AreApart, IsFor, StandsFor, IsWith, IsWithout, IsPut}

-- ---- items by place

-- where an item of the list without one stood
pub record Stood {X : Type 0} (xs : List X) (i j : ℕ) (s : X) : Type 0 where
  pub place : ℕ
  pub got : slice_get xs place ≡ Some s
  pub moved : ((place ≡ j) × (j < i)) ⊎ ((place ≡ suc j) × (i ≤ j))

pub got_remove : {X : Type 0} (xs : List X) (i j : ℕ) (s : X) → slice_get (remove xs i) j ≡ Some s → Stood xs i j s
got_remove [] zero j s h = absurd (none-some s h)
got_remove [] (suc i) j s h = absurd (none-some s h)
got_remove (x ∷ xs) zero j s h = record { place = suc j; got = h; moved = inr (refl, omega arith) }
got_remove (x ∷ xs) (suc i) zero s h = record { place = 0; got = h; moved = inl (refl, omega arith) }
got_remove (x ∷ xs) (suc i) (suc j) s h =
    let r = got_remove xs i j s h in
    record { place = suc r.place; got = r.got; moved = by r.place r.moved }
  where
    by : (k : ℕ) → ((k ≡ j) × (j < i)) ⊎ ((k ≡ suc j) × (i ≤ j))
        → ((suc k ≡ suc j) × (suc j < suc i)) ⊎ ((suc k ≡ suc (suc j)) × (suc i ≤ suc j))
    by k (inl r) = inl (ap suc r.0, let l = r.1 in omega (arith, l))
    by k (inr r) = inr (ap suc r.0, let l = r.1 in omega (arith, l))

pub removed : {X : Type 0} (xs : List X) (i k : ℕ) (s : X) → k ≢ i → slice_get xs k ≡ Some s
    → (j : ℕ) × (slice_get (remove xs i) j ≡ Some s)
removed [] i k s n h = absurd (none-some s h)
removed (x ∷ xs) zero zero s n h = absurd (n refl)
removed (x ∷ xs) zero (suc k) s n h = (k, h)
removed (x ∷ xs) (suc i) zero s n h = (0, h)
removed (x ∷ xs) (suc i) (suc k) s n h = let r = removed xs i k s (λ e. n (ap suc e)) h in (suc r.0, r.1)

-- ---- numbers stay apart

pub apart_set : (ss : List Standing) (i : ℕ) (g p : Standing) → AreApart ss → slice_get ss i ≡ Some g → p.t ≡ g.t → AreApart (set ss i p)
apart_set ss i g p apart at same j k r s gr gs e = by (got_set ss i j p r gr) (got_set ss i k p s gs)
  where
    by : ((j ≡ i) × (r ≡ p)) ⊎ ((j ≢ i) × (slice_get ss j ≡ Some r)) → ((k ≡ i) × (s ≡ p)) ⊎ ((k ≢ i) × (slice_get ss k ≡ Some s)) → j ≡ k
    by (inl a) (inl b) = a.0 ∙ sym b.0
    by (inl a) (inr b) =
        let number : g.t ≡ s.t = sym same ∙ (sym (ap (λ (z : Standing). z.t) a.1) ∙ e) in
        a.0 ∙ apart i k g s at b.1 number
    by (inr a) (inl b) =
        let number : r.t ≡ g.t = e ∙ (ap (λ (z : Standing). z.t) b.1 ∙ same) in
        apart j i r g a.1 at number ∙ sym b.0
    by (inr a) (inr b) = apart j k r s a.1 b.1 e

pub apart_remove : (ss : List Standing) (i : ℕ) → AreApart ss → AreApart (remove ss i)
apart_remove ss i apart j k r s gr gs e =
    let a = got_remove ss i j r gr in
    let b = got_remove ss i k s gs in
    by a.place b.place (apart a.place b.place r s a.got b.got e) a.moved b.moved
  where
    by : (x y : ℕ) → x ≡ y → ((x ≡ j) × (j < i)) ⊎ ((x ≡ suc j) × (i ≤ j)) → ((y ≡ k) × (k < i)) ⊎ ((y ≡ suc k) × (i ≤ k)) → j ≡ k
    by x y q (inl a) (inl b) = sym a.0 ∙ (q ∙ b.0)
    by x y q (inl a) (inr b) = let a0 = a.0 in let a1 = a.1 in let b0 = b.0 in let b1 = b.1 in absurd (omega (arith, q, a0, a1, b0, b1))
    by x y q (inr a) (inl b) = let a0 = a.0 in let a1 = a.1 in let b0 = b.0 in let b1 = b.1 in absurd (omega (arith, q, a0, a1, b0, b1))
    by x y q (inr a) (inr b) = let a0 = a.0 in let b0 = b.0 in omega (arith, q, a0, b0)

-- ---- the transactions that they stand for

module _ (d : Design) (old frames : List Frame) (ss : List Standing) (stand : StandsFor d old ss) where
  pub stands_put : (i : ℕ) (g p : Standing) (f : Frame) → AreApart ss → slice_get ss i ≡ Some g → p.t ≡ g.t → IsFor d f p
      → IsPut f old frames → StandsFor d frames (set ss i p)
  stands_put i g p f apart at same is put = record { each = each; only = only }
    where
      number : f.t ≡ g.t
      number = sym is.number ∙ same

      each : (x : Frame) → IsIn frames x → (s : Standing) × IsIn (set ss i p) s × IsFor d x s
      each x m = by ((put x).0 m)
        where
          by : (IsIn old x × (x.t ≢ f.t)) ⊎ (x ≡ f) → (s : Standing) × IsIn (set ss i p) s × IsFor d x s
          by (inl o) =
              let k = stand.each x o.0 in
              let elsewhere : k.1.0 ≢ i = λ e. o.1 (sym k.2.number ∙ (ap (λ (z : Standing). z.t)
              (same_Some k.0 g (sym k.1.1 ∙ (ap (slice_get ss) e ∙ at))) ∙ sym number)) in
              (k.0, (k.1.0, set_other ss i k.1.0 p elsewhere ∙ k.1.1), k.2)
          by (inr e) = (p, (i, set_got ss i g p at), subst (λ z. IsFor d z p) (sym e) is)

      only : (s : Standing) → IsIn (set ss i p) s → (x : Frame) × IsIn frames x × IsFor d x s
      only s m = by (got_set ss i m.0 p s m.1)
        where
          by : ((m.0 ≡ i) × (s ≡ p)) ⊎ ((m.0 ≢ i) × (slice_get ss m.0 ≡ Some s)) → (x : Frame) × IsIn frames x × IsFor d x s
          by (inl a) = (f, (put f).1 (inr refl), subst (IsFor d f) (sym a.1) is)
          by (inr a) =
              let k = stand.only s (m.0, a.1) in
              let other : k.0.t ≢ f.t = λ e. a.0 (apart m.0 i s g a.1 at (k.2.number ∙ (e ∙ number))) in
              (k.0, (put k.0).1 (inl (k.1, other)), k.2)

  pub stands_drop : (i : ℕ) (g : Standing) → AreApart ss → slice_get ss i ≡ Some g → IsWithout g.t old frames
      → StandsFor d frames (remove ss i)
  stands_drop i g apart at without = record { each = each; only = only }
    where
      each : (x : Frame) → IsIn frames x → (s : Standing) × IsIn (remove ss i) s × IsFor d x s
      each x m =
          let o = (without x).0 m in
          let k = stand.each x o.0 in
          let elsewhere : k.1.0 ≢ i = λ e. o.1 (sym k.2.number ∙ ap (λ (z : Standing). z.t)
          (same_Some k.0 g (sym k.1.1 ∙ (ap (slice_get ss) e ∙ at)))) in
          (k.0, removed ss i k.1.0 k.0 elsewhere k.1.1, k.2)

      apart_from : (j k : ℕ) → k ≡ i → ((k ≡ j) × (j < i)) ⊎ ((k ≡ suc j) × (i ≤ j)) → ⊥
      apart_from j k e (inl a) = let a0 = a.0 in let a1 = a.1 in absurd (omega (arith, e, a0, a1))
      apart_from j k e (inr a) = let a0 = a.0 in let a1 = a.1 in absurd (omega (arith, e, a0, a1))

      only : (s : Standing) → IsIn (remove ss i) s → (x : Frame) × IsIn frames x × IsFor d x s
      only s m =
          let r = got_remove ss i m.0 s m.1 in
          let k = stand.only s (r.place, r.got) in
          let other : k.0.t ≢ g.t = λ e. apart_from m.0 r.place (apart r.place i s g r.got at (k.2.number ∙ e)) r.moved in
          (k.0, (without k.0).1 (k.1, other), k.2)

-- ---- one more

pub push_new : {X : Type 0} (xs : List X) (p : X) → slice_get (xs ++ p ∷ []) (length xs) ≡ Some p
push_new [] p = refl
push_new (x ∷ xs) p = push_new xs p

pub apart_push : (ss : List Standing) (p : Standing) → AreApart ss → ((i : ℕ) (s : Standing) → slice_get ss i ≡ Some s → s.t ≢ p.t)
    → AreApart (ss ++ p ∷ [])
apart_push ss p apart new j k r s gr gs e = by (got_push ss j p r gr) (got_push ss k p s gs)
  where
    by : ((j ≡ length ss) × (r ≡ p)) ⊎ (slice_get ss j ≡ Some r) → ((k ≡ length ss) × (s ≡ p)) ⊎ (slice_get ss k ≡ Some s) → j ≡ k
    by (inr a) (inr b) = apart j k r s a b e
    by (inr a) (inl b) = absurd (new j r a (e ∙ ap (λ (z : Standing). z.t) b.1))
    by (inl a) (inr b) = absurd (new k s b (sym e ∙ ap (λ (z : Standing). z.t) a.1))
    by (inl a) (inl b) = a.0 ∙ sym b.0

pub stands_push : (d : Design) (old frames : List Frame) (ss : List Standing) (f : Frame) (p : Standing) → StandsFor d old ss
    → IsFor d f p → IsWith f old frames → StandsFor d frames (ss ++ p ∷ [])
stands_push d old frames ss f p stand is with_f = record { each = each; only = only }
  where
    each : (x : Frame) → IsIn frames x → (s : Standing) × IsIn (ss ++ p ∷ []) s × IsFor d x s
    each x m = by ((with_f x).0 m)
      where
        by : IsIn old x ⊎ (x ≡ f) → (s : Standing) × IsIn (ss ++ p ∷ []) s × IsFor d x s
        by (inl o) = let k = stand.each x o in (k.0, (k.1.0, push_old ss k.1.0 p k.0 k.1.1), k.2)
        by (inr e) = (p, (length ss, push_new ss p), subst (λ z. IsFor d z p) (sym e) is)

    only : (s : Standing) → IsIn (ss ++ p ∷ []) s → (x : Frame) × IsIn frames x × IsFor d x s
    only s m = by (got_push ss m.0 p s m.1)
      where
        by : ((m.0 ≡ length ss) × (s ≡ p)) ⊎ (slice_get ss m.0 ≡ Some s) → (x : Frame) × IsIn frames x × IsFor d x s
        by (inr a) = let k = stand.only s (m.0, a) in (k.0, (with_f k.0).1 (inl k.1), k.2)
        by (inl a) = (f, (with_f f).1 (inr refl), subst (IsFor d f) (sym a.1) is)
