-- A guard that is met at the point of an open leaf is shown by what is known there.
use Rattle.std.proofs.Common.{◌≡◌, Bool, true, false, List, [], ◌∷◌, refl, ap, sym, ◌∙◌, subst, arith, inl, inr, ℤ, pos, negsuc}
use Rattle.std.proofs.Common.{◌+ℤ◌, ◌*ℤ◌, neg_ℤ, if◌then◌else◌}
use Rattle.std.specs.Prelude.{All, ◌⊎◌, ◌&&◌}
use Rattle.std.specs.Ordering.{int_eq}
use Rattle.std.specs.List.{Contains}
use lib.Signed.{◌<ℤ◌, ◌≤ℤ◌}
use lib.IntN.{*ℤ_comm, zero-*ℤ}
use Rattle.std.proofs.lemmas.Int.{ints}
use Rattle.std.proofs.lemmas.Bool.Decides.{Decides-int_eq}
use Rattle.std.proofs.lemmas.List.Elements.{All-contains}
use Rattle.acc_base.specs.declared.forms.Unknown.{Unknown}
use Rattle.acc_base.specs.declared.forms.Form.{Form}
use Rattle.acc_base.specs.declared.forms.Rel.{Rel}
use Rattle.acc_base.specs.Collecting.{worth}
use Rattle.acc_base.specs.Sums.{Term, form_sum, is_sum_wide}
use Rattle.acc_base.proofs.Products.{times_sum, sum_times}
use Rattle.acc_base.proofs.SumLaws.{form_sum-worth}
use Rattle.acc_instanced.proofs.PartValues.{one_times, minus_times}
use Rattle.acc_base.specs.Forms.{is_zero}
use Rattle.acc_proof.specs.Facts.{one, below_zero, above_zero}
use Rattle.acc_inst.specs.Lists.{no_terms, is_nothing, cancels}
use Rattle.acc_elim_solved.proofs.Ints.{below_times, cancel_below, cancel_zero, above_other}
use Rattle.acc_prover_searched.specs.OpenLeaves.{IsDecided}
use Rattle.acc_prover_searched.proofs.Solutions.{worth_of, worth_below, worth_above, Solution}
use Rattle.acc_prover_searched.proofs.Guards.{IsLike, IsAmong}

-- ---- forms that are alike are worth the same, or the opposite

both : (a b : Bool) → (a && b) ≡ true → (a ≡ true) × (b ≡ true)
both true b h = (refl, h)
both false b h = absurd (cc)

no_worth : (v : Unknown → ℤ) (ts : List Term) → no_terms ts ≡ true → worth v ts ≡ pos 0
no_worth v [] h = refl
no_worth v (t ∷ ts) h = absurd (cc)

nothing_of : (g : Form) (by : ℤ) (e : Form) → cancels by g e ≡ true → is_nothing (form_sum g by e) ≡ true
nothing_of g by e h = from (is_sum_wide g by e) h
  where
    from : (b : Bool) → (if b then false else is_nothing (form_sum g by e)) ≡ true → is_nothing (form_sum g by e) ≡ true
    from true k = absurd (cc)
    from false k = k

module _ (D : ℤ) (v : Unknown → ℤ) where
  cancelled : (g : Form) (by : ℤ) (e : Form) → cancels by g e ≡ true
      → (worth v g.terms +ℤ by *ℤ worth v e.terms ≡ pos 0) × (g.constant +ℤ by *ℤ e.constant ≡ pos 0)
  cancelled g by e h =
      let parts = both (no_terms (form_sum g by e).terms) (int_eq (form_sum g by e).constant (pos 0)) (nothing_of g by e h) in
      let terms = no_worth v (form_sum g by e).terms parts.0 in
      let constant = (Decides-int_eq (form_sum g by e).constant (pos 0)).0 parts.1 in
      let whole = form_sum-worth v g by e in
      let sum = times_sum by (worth v e.terms) e.constant in
      (omega (arith, ints, terms, constant, whole, sum), constant)

  alike_same : (g e : Form) → cancels (negsuc 0) g e ≡ true → worth_of D v g ≡ worth_of D v e
  alike_same g e h =
      let parts = cancelled g (negsuc 0) e h in
      let terms = minus_times (worth v e.terms) in
      let constant = minus_times e.constant in
      let same : g.constant ≡ e.constant = omega (arith, ints, parts.1, constant) in
      let along = ap (λ k. k *ℤ D) same in
      omega (arith, ints, parts.0, terms, along)

  alike_opposite : (g e : Form) → cancels (pos 1) g e ≡ true → worth_of D v g ≡ neg_ℤ (worth_of D v e)
  alike_opposite g e h =
      let parts = cancelled g (pos 1) e h in
      let terms = one_times (worth v e.terms) in
      let along = ap (λ k. k *ℤ D) parts.1 in
      let sum = sum_times g.constant (pos 1 *ℤ e.constant) D in
      let single = ap (λ k. k *ℤ D) (one_times e.constant) in
      let none = zero-*ℤ D in
      omega (arith, ints, parts.0, terms, along, sum, single, none)

-- ---- signs

-- two numbers, over denominators of their own, are both below 0 by a whole, or both 0, or both above 0 by a whole
abbrev Signed : ℤ → ℤ → ℤ → ℤ → Type 0
Signed D x E y = (((x +ℤ D) ≤ℤ pos 0) × ((y +ℤ E) ≤ℤ pos 0)) ⊎ (((x ≡ pos 0) × (y ≡ pos 0)) ⊎ ((D ≤ℤ x) × (E ≤ℤ y)))

opposite : (D x E y : ℤ) → Signed D x E y → Signed D (neg_ℤ x) E (neg_ℤ y)
opposite D x E y (inl h) = inr (inr (omega (arith, ints, h.0), omega (arith, ints, h.1)))
opposite D x E y (inr (inl h)) = inr (inl (omega (arith, ints, h.0), omega (arith, ints, h.1)))
opposite D x E y (inr (inr h)) = inl (omega (arith, ints, h.0), omega (arith, ints, h.1))

-- what is at most 0 in one is not above 0 by a whole in the other; and what is 0 in one is not below 0 by a whole either
no_above : (D x E y : ℤ) → pos 0 <ℤ D → pos 0 <ℤ E → Signed D x E y → x ≤ℤ pos 0 → E ≤ℤ y → ⊥
no_above D x E y d e (inl h) low high = omega (arith, ints, d, e, h.0, h.1, low, high)
no_above D x E y d e (inr (inl h)) low high = omega (arith, ints, d, e, h.0, h.1, low, high)
no_above D x E y d e (inr (inr h)) low high = omega (arith, ints, d, e, h.0, h.1, low, high)

no_below : (D x E y : ℤ) → pos 0 <ℤ D → pos 0 <ℤ E → Signed D x E y → x ≡ pos 0 → (y +ℤ E) ≤ℤ pos 0 → ⊥
no_below D x E y d e (inl h) low high = omega (arith, ints, d, e, h.0, h.1, low, high)
no_below D x E y d e (inr (inl h)) low high = omega (arith, ints, d, e, h.0, h.1, low, high)
no_below D x E y d e (inr (inr h)) low high = omega (arith, ints, d, e, h.0, h.1, low, high)

-- a constant has one sign
constant_above : (c D E : ℤ) → pos 0 <ℤ D → pos 0 <ℤ E → (c *ℤ D) ≤ℤ pos 0 → E ≤ℤ (c *ℤ E) → ⊥
constant_above c D E d e low high =
    let turned = *ℤ_comm c D in
    let swapped = *ℤ_comm c E in
    let less = cancel_below D c d (omega (arith, ints, turned, low)) in
    let over : pos 0 ≤ℤ E = omega (arith, ints, e) in
    let none = below_times E c over less in
    omega (arith, ints, e, swapped, none, high)

constant_below : (c D E : ℤ) → pos 0 <ℤ D → pos 0 <ℤ E → c *ℤ D ≡ pos 0 → ((c *ℤ E) +ℤ E) ≤ℤ pos 0 → ⊥
constant_below c D E d e low high =
    let turned = *ℤ_comm c D in
    let zero = cancel_zero D c (above_other D d) (sym turned ∙ low) in
    let none = ap (λ k. k *ℤ E) zero ∙ zero-*ℤ E in
    omega (arith, ints, e, none, high)

-- ---- what is decided

module _ (R leaf other : List Rel) (in_leaf : (r : Rel) → Contains R r → Contains leaf r)
    (in_other : (r : Rel) → Contains R r → Contains other r)
    (s : Solution leaf) (t : Solution other) where
  signed : (e : Form) → IsDecided R e → Signed s.D (worth_of s.D s.v e) t.D (worth_of t.D t.v e)
  signed e (inl h) =
      let a = s.met (form_sum e (pos 1) one) (in_leaf (below_zero e) h) in
      let b = t.met (form_sum e (pos 1) one) (in_other (below_zero e) h) in
      let p = worth_below s.D s.v e in
      let r = worth_below t.D t.v e in
      inl (omega (arith, ints, a, p), omega (arith, ints, b, r))
  signed e (inr (inl h)) =
      inr (inl (s.zero_met e (in_leaf (is_zero e) h), t.zero_met e (in_other (is_zero e) h)))
  signed e (inr (inr h)) =
      let a = s.met (form_sum one (negsuc 0) e) (in_leaf (above_zero e) h) in
      let b = t.met (form_sum one (negsuc 0) e) (in_other (above_zero e) h) in
      let p = worth_above s.D s.v e in
      let r = worth_above t.D t.v e in
      inr (inr (omega (arith, ints, a, p), omega (arith, ints, b, r)))

  like_signed : (g e : Form) → IsLike g e → Signed s.D (worth_of s.D s.v e) t.D (worth_of t.D t.v e)
      → Signed s.D (worth_of s.D s.v g) t.D (worth_of t.D t.v g)
  like_signed g e (inl h) k = subst (λ (x : Form). Signed s.D (worth_of s.D s.v x) t.D (worth_of t.D t.v x)) (sym h) k
  like_signed g e (inr (inl h)) k =
      subst (λ (x : ℤ). Signed s.D x t.D (worth_of t.D t.v g)) (sym (alike_same s.D s.v g e h))
      (subst (λ (y : ℤ). Signed s.D (worth_of s.D s.v e) t.D y) (sym (alike_same t.D t.v g e h)) k)
  like_signed g e (inr (inr h)) k =
      subst (λ (x : ℤ). Signed s.D x t.D (worth_of t.D t.v g)) (sym (alike_opposite s.D s.v g e h))
      (subst (λ (y : ℤ). Signed s.D (neg_ℤ (worth_of s.D s.v e)) t.D y) (sym (alike_opposite t.D t.v g e h))
      (opposite s.D (worth_of s.D s.v e) t.D (worth_of t.D t.v e) k))

  module _ (splits : List Form) (all : All (IsDecided R) splits) (g : Form) (among : IsAmong splits g) where
    -- what is at most 0 at one point isn't above 0 at another
    pub not_above : worth_of s.D s.v g ≤ℤ pos 0 → Contains other (above_zero g) → ⊥
    not_above low there = by among
      where
        high : t.D ≤ℤ worth_of t.D t.v g
        high =
            let m = t.met (form_sum one (negsuc 0) g) there in
            let w = worth_above t.D t.v g in
            omega (arith, ints, m, w)

        by : IsAmong splits g → ⊥
        by (inl h) =
            let a = no_worth s.v g.terms h in
            let b = no_worth t.v g.terms h in
            constant_above g.constant s.D t.D s.positive t.positive (omega (arith, ints, a, low)) (omega (arith, ints, b, high))
        by (inr h) =
            no_above s.D (worth_of s.D s.v g) t.D (worth_of t.D t.v g) s.positive t.positive
            (like_signed g h.0 h.2 (signed h.0 (All-contains (IsDecided R) splits h.0 all h.1))) low high

    -- and what is 0 isn't below 0
    pub not_below : worth_of s.D s.v g ≡ pos 0 → Contains other (below_zero g) → ⊥
    not_below zero there = by among
      where
        low : (worth_of t.D t.v g +ℤ t.D) ≤ℤ pos 0
        low =
            let m = t.met (form_sum g (pos 1) one) there in
            let w = worth_below t.D t.v g in
            omega (arith, ints, m, w)

        by : IsAmong splits g → ⊥
        by (inl h) =
            let a = no_worth s.v g.terms h in
            let b = no_worth t.v g.terms h in
            constant_below g.constant s.D t.D s.positive t.positive (omega (arith, ints, a, zero)) (omega (arith, ints, b, low))
        by (inr h) =
            no_below s.D (worth_of s.D s.v g) t.D (worth_of t.D t.v g) s.positive t.positive
            (like_signed g h.0 h.2 (signed h.0 (All-contains (IsDecided R) splits h.0 all h.1))) zero low
