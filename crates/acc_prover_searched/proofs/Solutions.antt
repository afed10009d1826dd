-- A point that meets relations, over one denominator: each form is worth a whole number there.
use Rattle.std.proofs.Common.{◌≡◌, ℕ, zero, suc, Bool, true, false, List, [], ◌∷◌, refl, ap, sym, ◌∙◌, subst, arith, ℤ, pos, negsuc}
use Rattle.std.proofs.Common.{◌+ℤ◌, ◌*ℤ◌, neg_ℤ, if◌then◌else◌}
use Rattle.std.specs.Prelude.{All, IsTrue, Option, Some, None, int_lt, int_le}
use Rattle.std.specs.Option.{option_map_or}
use Rattle.std.specs.Ordering.{int_eq}
use Rattle.std.specs.List.{Contains}
use lib.Signed.{◌<ℤ◌, ◌≤ℤ◌}
use lib.IntN.{*ℤ_comm, zero-*ℤ}
use Rattle.std.proofs.lemmas.Int.{ints}
use Rattle.std.proofs.lemmas.Bool.Decides.{Decides-int_eq}
use Rattle.std.proofs.lemmas.List.Elements.{All-head, All-tail, All-contains}
use Rattle.acc_base.specs.declared.forms.Unknown.{Unknown}
use Rattle.acc_base.specs.declared.forms.Form.{Form}
use Rattle.acc_base.specs.declared.forms.Rel.{Rel}
use Rattle.acc_base.specs.Collecting.{worth}
use Rattle.acc_base.specs.Sums.{form_sum}
use Rattle.acc_base.specs.UnknownEquality.{is_bare_one}
use Rattle.acc_base.proofs.Products.{sum_times, times_times}
use Rattle.acc_base.proofs.SumLaws.{form_sum-worth}
use Rattle.acc_instanced.proofs.PartValues.{one_times, minus_times}
use Rattle.acc_elim_points.specs.Fractions.{Fraction}
use Rattle.acc_elim_points.specs.Points.{Point, value}
use Rattle.acc_elim_readings.specs.Readings.{unknowns_of, place_of}
use Rattle.acc_base.specs.Forms.{at_most, is_zero}
use Rattle.acc_proof.specs.Facts.{one}
use Rattle.acc_elim_solved.specs.Meetings.{value_at, plus_exactly, sum_at, form_at, is_met, is_above, Meets}
use Rattle.acc_elim_solved.proofs.Ints.{move, above_times, below_times, cancel_below, cancel_zero, above_other}
use Rattle.acc_elim_solved.proofs.Values.{Worth, sum_worth}
use Rattle.acc_elim_solved.proofs.Points.{Worths}

-- ---- one denominator

pub record Scaled (p : Point) : Type 0 where
  pub f : ℕ → ℤ
  pub D : ℤ
  pub positive : pos 0 <ℤ D
  pub worths : Worths f D p

is_positive : (k : ℤ) → IsTrue (int_lt (pos 0) k) → pos 0 <ℤ k
is_positive k h = grind (arith, ints)

abbrev scaled_first : ℤ → ℤ → (ℕ → ℤ) → ℕ → ℤ
scaled_first n m f zero = n
scaled_first n m f (suc i) = f i *ℤ m

scaled : (p : Point) → All (λ x. IsTrue (is_above x)) p → Scaled p
scaled [] above =
    record { f = λ _. pos 0; D = pos 1; positive = omega (arith, ints); worths = λ i. (omega (arith, ints), omega (arith, ints)) }
scaled (x ∷ xs) above =
    let rest = scaled xs (All-tail (λ y. IsTrue (is_above y)) x xs above) in
    let over = is_positive x.1 (All-head (λ y. IsTrue (is_above y)) x xs above) in
    record {
      f = scaled_first (x.0 *ℤ rest.D) x.1 rest.f;
      D = rest.D *ℤ x.1;
      positive = above_times rest.D x.1 rest.positive over;
      worths = by rest over;
    }
  where
    by : (rest : Scaled xs) → pos 0 <ℤ x.1 → Worths (scaled_first (x.0 *ℤ rest.D) x.1 rest.f) (rest.D *ℤ x.1) (x ∷ xs)
    by rest over zero = (sym (times_times x.0 rest.D x.1), over)
    by rest over (suc i) =
        let y = value xs i in
        let w = rest.worths i in
        (sym (times_times y.0 rest.D x.1) ∙ (ap (λ z. z *ℤ x.1) w.0 ∙ move (rest.f i) y.1 x.1), w.1)

-- ---- what forms are worth

-- a form's value times D, where unknowns are worth v / D
abbrev pub worth_of : ℤ → (Unknown → ℤ) → Form → ℤ
worth_of D v g = g.constant *ℤ D +ℤ worth v g.terms

module _ (D : ℤ) (v : Unknown → ℤ) where
  pub worth_below : (g : Form) → worth_of D v (form_sum g (pos 1) one) ≡ worth_of D v g +ℤ D
  worth_below g =
      let whole = form_sum-worth v g (pos 1) one in
      let parts = sum_times g.constant (pos 1) D in
      let single = one_times D in
      let unit = one_times (worth v one.terms +ℤ one.constant) in
      let none : worth v one.terms ≡ pos 0 = refl in
      omega (arith, ints, whole, parts, single, unit, none)

  pub worth_above : (g : Form) → worth_of D v (form_sum one (negsuc 0) g) ≡ D +ℤ neg_ℤ (worth_of D v g)
  worth_above g =
      let whole = form_sum-worth v one (negsuc 0) g in
      let parts = sum_times (pos 1) (negsuc 0 *ℤ g.constant) D in
      let single = one_times D in
      let turned = times_times (negsuc 0) g.constant D in
      let less = minus_times (g.constant *ℤ D) in
      let all = minus_times (worth v g.terms +ℤ g.constant) in
      let constant = minus_times g.constant in
      let none : worth v one.terms ≡ pos 0 = refl in
      omega (arith, ints, whole, parts, single, turned, less, all, constant, none)

-- ---- signs at a point

at_most_zero : (k : ℤ) → IsTrue (int_le k (pos 0)) → k ≤ℤ pos 0
at_most_zero k h = grind (arith, ints)

-- a relation that is met says this of what its form is worth
abbrev pub Says : Bool → ℤ → Type 0
Says true n = n ≡ pos 0
Says false n = n ≤ℤ pos 0

module _ (names : List Unknown) (p : Point) (s : Scaled p) where
  abbrev pub value_of : Unknown → ℤ
  value_of u = if is_bare_one u then s.D else option_map_or s.f (place_of names u) (pos 0)

  value_worth : (alone : Bool) (place : Option ℕ) → Worth s.D (if alone then s.D else option_map_or s.f place (pos 0))
      (if alone then (pos 1, pos 1) else option_map_or (value p) place (pos 0, pos 1))
  value_worth true place = (omega (arith, ints), omega (arith, ints))
  value_worth false None = let none = zero-*ℤ s.D in (omega (arith, ints, none), omega (arith, ints))
  value_worth false (Some k) = s.worths k

  sum_is : (ts : List (Unknown × ℤ)) (X : ℤ) (x : Fraction) → Worth s.D X x
      → Worth s.D (X +ℤ worth value_of ts) (sum_at names p x ts)
  sum_is [] X x w = let same : X ≡ X +ℤ pos 0 = omega (arith, ints) in subst (λ y. Worth s.D y x) same w
  sum_is (t ∷ ts) X x w =
      let v = value_worth (is_bare_one t.0) (place_of names t.0) in
      let next = sum_worth s.D X (value_of t.0) t.1 x (value_at names p t.0) w v in
      let over = above_times x.1 (value_at names p t.0).1 w.1 v.1 in
      let same : (X +ℤ t.1 *ℤ value_of t.0) +ℤ worth value_of ts ≡ X +ℤ worth value_of (t ∷ ts) = omega (arith, ints) in
      subst (λ y. Worth s.D y (sum_at names p x (t ∷ ts))) same
      (sum_is ts (X +ℤ t.1 *ℤ value_of t.0) (plus_exactly x t.1 (value_at names p t.0)) (next, over))

  form_is : (r : Rel) → Worth s.D (worth_of s.D value_of r.form) (form_at names p r)
  form_is r =
      let single : r.form.constant *ℤ s.D ≡ (r.form.constant *ℤ s.D) *ℤ pos 1 = omega (arith, ints) in
      sum_is r.form.terms (r.form.constant *ℤ s.D) (r.form.constant, pos 1) (single, omega (arith, ints))

  pub says : (r : Rel) → IsTrue (is_met names p r) → Says r.equal (worth_of s.D value_of r.form)
  says r met = by r.equal met
    where
      by : (b : Bool) → IsTrue (if b then int_eq (form_at names p r).0 (pos 0) else int_le (form_at names p r).0 (pos 0))
          → Says b (worth_of s.D value_of r.form)
      by true e =
          let w = form_is r in
          let n = (Decides-int_eq (form_at names p r).0 (pos 0)).0 e in
          let none = ap (λ z. z *ℤ s.D) n ∙ zero-*ℤ s.D in
          let turned = *ℤ_comm (form_at names p r).1 (worth_of s.D value_of r.form) in
          cancel_zero (form_at names p r).1 (worth_of s.D value_of r.form) (above_other (form_at names p r).1 w.1)
          (turned ∙ (sym w.0 ∙ none))
      by false e =
          let w = form_is r in
          let n = at_most_zero (form_at names p r).0 e in
          let turned = *ℤ_comm (form_at names p r).1 (worth_of s.D value_of r.form) in
          let swapped = *ℤ_comm (form_at names p r).0 s.D in
          let over : pos 0 ≤ℤ s.D = omega (arith, ints, s.positive) in
          let low = below_times s.D (form_at names p r).0 over n in
          cancel_below (form_at names p r).1 (worth_of s.D value_of r.form) w.1 (omega (arith, ints, w.0, turned, swapped, low))

-- ---- a solution of relations: forms are worth whole numbers over D, and each relation says what it says

pub record Solution (rels : List Rel) : Type 0 where
  pub D : ℤ
  pub v : Unknown → ℤ
  pub positive : pos 0 <ℤ D
  pub met : (g : Form) → Contains rels (at_most g) → worth_of D v g ≤ℤ pos 0
  pub zero_met : (g : Form) → Contains rels (is_zero g) → worth_of D v g ≡ pos 0

pub solution : (rels : List Rel) (p : Point) → Meets rels p → Solution rels
solution rels p m =
    let s = scaled p m.above in
    record {
      D = s.D;
      v = value_of (unknowns_of rels) p s;
      positive = s.positive;
      met = λ g here. says (unknowns_of rels) p s (at_most g) (met_at (at_most g) here);
      zero_met = λ g here. says (unknowns_of rels) p s (is_zero g) (met_at (is_zero g) here);
    }
  where
    met_at : (r : Rel) → Contains rels r → IsTrue (is_met (unknowns_of rels) p r)
    met_at r here = All-contains (λ x. IsTrue (is_met (unknowns_of rels) p x)) rels r m.met here

-- what a relation that is met at the point says of what its form is worth
pub solved_says : (rels : List Rel) (p : Point) (m : Meets rels p) (r : Rel) → IsTrue (is_met (unknowns_of rels) p r)
    → Says r.equal (worth_of (solution rels p m).D (solution rels p m).v r.form)
unfolding solution
solved_says rels p m r met = says (unknowns_of rels) p (scaled p m.above) r met
