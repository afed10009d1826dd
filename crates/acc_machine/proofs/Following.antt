-- An index that stood for some frames stands for others that are the same but for one transaction's.
use Rattle.std.proofs.Common.{◌≡◌, ◌≢◌, ℕ, zero, suc, ◌≤◌, ◌⊎◌, inl, inr, List, [], ◌∷◌, length, sym, ap, subst, refl, ◌∙◌, arith, take, Bool, true, false}
use Rattle.std.proofs.Common.{Some}
use Rattle.std.specs.Prelude.{◌↔◌, slice_get, Result, Ok, Err, OnOk, IsTrue}
use Rattle.std.proofs.lemmas.Option.{same_Some, none-some}
use Rattle.acc_base.specs.declared.designs.Design.{Design}
use Rattle.acc_base.specs.declared.machines.Frame.{Frame}
use Rattle.acc_lift.proofs.Becoming.{number_cases}
use Rattle.acc_lock_index.specs.Indexed.{Standing, IsIn, StandsFor, HasNumber, IsWith, IsWithout, IsPut}
use Rattle.acc_machine.specs.Agreeing.{AreApart, AgreeBut}

module _ (d : Design) (old new : List Frame) (ss : List Standing) (stand : StandsFor d old ss) where
  -- the same frames, in whatever order
  pub stands_same : ((g : Frame) → IsIn old g ↔ IsIn new g) → StandsFor d new ss
  stands_same same = record {
    each = λ f is. stand.each f ((same f).1 is);
    only = λ s is. let z = stand.only s is in (z.0, (same z.0).0 z.1, z.2);
  }

  -- a frame whose number has none
  has_no : (t : ℕ) → ¬ HasNumber ss t → (g : Frame) → IsIn old g → g.t ≢ t
  has_no t none g is e = let z = stand.each g is in none (z.0, z.1, z.2.number ∙ e)

  pub put_with : (f : Frame) → ¬ HasNumber ss f.t → IsPut f old new → IsWith f old new
  put_with f none put g = (λ is. to ((put g).0 is), from)
    where
      to : ((IsIn old g × (g.t ≢ f.t)) ⊎ (g ≡ f)) → IsIn old g ⊎ (g ≡ f)
      to (inl p) = inl p.0
      to (inr e) = inr e

      from : IsIn old g ⊎ (g ≡ f) → IsIn new g
      from (inl is) = (put g).1 (inl (is, has_no f.t none g is))
      from (inr e) = (put g).1 (inr e)

  pub without_none : (t : ℕ) → ¬ HasNumber ss t → IsWithout t old new → StandsFor d new ss
  without_none t none without =
      stands_same (λ g. ((λ is. (without g).1 (is, has_no t none g is)), (λ is. ((without g).0 is).0)))

-- ---- what agreeing lists are to each other

module _ (t : ℕ) (old new : List Frame) (agree : AgreeBut t old new) where
  pub agree_put : AreApart new → (f : Frame) → IsIn new f → f.t ≡ t → IsPut f old new
  agree_put apart f here number g = (to, from)
    where
      to : IsIn new g → ((IsIn old g × (g.t ≢ f.t)) ⊎ (g ≡ f))
      to is = by (number_cases g.t f.t)
        where
          by : (g.t ≡ f.t) ⊎ (g.t ≢ f.t) → ((IsIn old g × (g.t ≢ f.t)) ⊎ (g ≡ f))
          by (inl e) = inr (apart g f is here e)
          by (inr n) = inl ((agree g (λ q. n (q ∙ sym number))).1 is, n)

      from : ((IsIn old g × (g.t ≢ f.t)) ⊎ (g ≡ f)) → IsIn new g
      from (inl p) = (agree g (λ q. p.1 (q ∙ sym number))).0 p.0
      from (inr e) = subst (IsIn new) (sym e) here

  pub agree_without : ((g : Frame) → IsIn new g → g.t ≢ t) → IsWithout t old new
  agree_without none g = ((λ is. ((agree g (none g is)).1 is, none g is)), (λ p. (agree g p.1).0 p.0))

-- ---- the frames before a place, and the one there

in_take : (fs : List Frame) (n j : ℕ) (g : Frame) → slice_get (take n fs) j ≡ Some g → slice_get fs j ≡ Some g
in_take fs zero j g h = absurd (none-some g h)
in_take [] (suc n) j g h = absurd (none-some g h)
in_take (f ∷ fs) (suc n) zero g h = h
in_take (f ∷ fs) (suc n) (suc j) g h = in_take fs n j g h

-- one is before the next place where it is before this one, or it is the one here
before_next : (fs : List Frame) (i j : ℕ) (f g : Frame) → slice_get fs i ≡ Some f → slice_get (take (suc i) fs) j ≡ Some g
    → IsIn (take i fs) g ⊎ (g ≡ f)
before_next [] i j f g at h = absurd (none-some f at)
before_next (x ∷ fs) zero zero f g at h = inr (same_Some g f (sym h ∙ at))
before_next (x ∷ fs) zero (suc j) f g at h = absurd (none-some g h)
before_next (x ∷ fs) (suc i) zero f g at h = inl (0, h)
before_next (x ∷ fs) (suc i) (suc j) f g at h = by (before_next fs i j f g at h)
  where
    by : IsIn (take i fs) g ⊎ (g ≡ f) → IsIn (take (suc i) (x ∷ fs)) g ⊎ (g ≡ f)
    by (inl is) = inl (suc is.0, is.1)
    by (inr e) = inr e

next_before : (fs : List Frame) (i j : ℕ) (g : Frame) → slice_get (take i fs) j ≡ Some g → slice_get (take (suc i) fs) j ≡ Some g
next_before fs zero j g h = absurd (none-some g h)
next_before [] (suc i) j g h = absurd (none-some g h)
next_before (x ∷ fs) (suc i) zero g h = h
next_before (x ∷ fs) (suc i) (suc j) g h = next_before fs i j g h

here_next : (fs : List Frame) (i : ℕ) (f : Frame) → slice_get fs i ≡ Some f → slice_get (take (suc i) fs) i ≡ Some f
here_next [] i f at = absurd (none-some f at)
here_next (x ∷ fs) zero f at = at
here_next (x ∷ fs) (suc i) f at = here_next fs i f at

pub next_put : (fs : List Frame) (i : ℕ) (f : Frame) → AreApart fs → slice_get fs i ≡ Some f → IsPut f (take i fs) (take (suc i) fs)
next_put fs i f apart at g = (to, from)
  where
    to : IsIn (take (suc i) fs) g → ((IsIn (take i fs) g × (g.t ≢ f.t)) ⊎ (g ≡ f))
    to is = by (number_cases g.t f.t) (before_next fs i is.0 f g at is.1)
      where
        by : (g.t ≡ f.t) ⊎ (g.t ≢ f.t) → IsIn (take i fs) g ⊎ (g ≡ f) → ((IsIn (take i fs) g × (g.t ≢ f.t)) ⊎ (g ≡ f))
        by (inl e) k = inr (apart g f (is.0, in_take fs (suc i) is.0 g is.1) (i, at) e)
        by (inr n) (inl k) = inl (k, n)
        by (inr n) (inr e) = inr e

    from : ((IsIn (take i fs) g × (g.t ≢ f.t)) ⊎ (g ≡ f)) → IsIn (take (suc i) fs) g
    from (inl p) = (p.0.0, next_before fs i p.0.0 g p.0.1)
    from (inr e) = subst (IsIn (take (suc i) fs)) (sym e) (i, here_next fs i f at)

pub stands_none : (d : Design) → StandsFor d [] []
stands_none d = record { each = λ f is. absurd (none-some f is.1); only = λ s is. absurd (none-some s is.1) }

-- ---- of answers

pub on_ok_then : {A E P Q : Type 0} (r : Result A E) → OnOk r P → (P → Q) → OnOk r Q
on_ok_then (Ok x) h k = k h
on_ok_then (Err e) h k = tt

pub not_so : {P : Type 0} (b : Bool) → b ≡ false → IsTrue b ↔ P → ¬ P
not_so true e h p = cc
not_so false e h p = let t : false ≡ true = h.1 p in cc

pub take_all : (fs : List Frame) (n : ℕ) → length fs ≤ n → take n fs ≡ fs
take_all [] zero l = refl
take_all [] (suc n) l = refl
take_all (f ∷ fs) zero l = absurd (omega arith)
take_all (f ∷ fs) (suc n) l = ap (λ xs. f ∷ xs) (take_all fs n (omega arith))
