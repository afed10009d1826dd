-- What weighted sums of relations are worth.
use Rattle.std.proofs.Common.{◌≡◌, ℕ, zero, suc, Bool, true, false, List, [], ◌∷◌, refl, ap, sym, ◌∙◌, arith, ℤ, pos, negsuc}
use Rattle.std.proofs.Common.{◌+ℤ◌, ◌*ℤ◌, if◌then◌else◌, Option, Some, None, Result, Ok, Err, subst, not}
use Rattle.std.specs.Prelude.{IsTrue, ◌≤ℤ◌, ◌&&◌, ◌||◌, int_le, int_lt, slice_get, length, IfOk}
use Rattle.std.specs.List.{list_all, list_any}
use Rattle.std.specs.Ordering.{int_eq}
use Rattle.std.specs.Cmp.{first_so, second_so}
use Rattle.std.proofs.lemmas.Int.{ints}
use Rattle.std.proofs.lemmas.Bool.Decides.{Decides-int_eq}
use lib.IntN.{*ℤ-zero, *ℤ-one, zero-*ℤ, pos-*ℤ-negsuc}
use lib.Signed.{le_z_yes, lt_z_yes}
use lib.Dec.{T}
use Rattle.acc_base.specs.declared.forms.Unknown.{Unknown}
use Rattle.acc_base.specs.declared.forms.Form.{Form}
use Rattle.acc_base.specs.declared.forms.Rel.{Rel}
use Rattle.acc_base.specs.UnknownEquality.{unknown_eq, unknown_decides, bare_one, is_bare_one}
use Rattle.acc_base.specs.Sums.{Term, with_term, multiple, is_left}
use Rattle.acc_base.specs.Collecting.{term_worth, worth}
use Rattle.acc_base.specs.Worths.{form_worth}
use Rattle.acc_base.specs.Linear.{meets}
use Rattle.acc_base.proofs.Products.{times_sum, times_times}
use Rattle.acc_base.proofs.CollectedWorths.{worth-with_term}
use Rattle.acc_farkas.specs.declared.errors.FarkasError.{FarkasError}
use Rattle.acc_farkas.specs.Sums.{Pair, plus_number, plus_term, plus_terms, plus_multiple, plus_relation, weighted}
use Rattle.acc_farkas.specs.Sums.{nothing, may_have, signs, is_positive, rises, refutes_all}
use Rattle.acc_farkas.specs.Solutions.{rel_holds, HaveNoSolution}

pub all_here : {A : Type 0} (P : A → Bool) (xs : List A) (i : ℕ) (x : A) → list_all P xs ≡ true → slice_get xs i ≡ Some x → P x ≡ true
all_here P [] i x h e = absurd (cc)
all_here P (y ∷ ys) zero x h e =
    let k : y ≡ x = cc in
    ap P (sym k) ∙ first_so (P y) (list_all P ys) h
all_here P (y ∷ ys) (suc i) x h e = all_here P ys i x (second_so (P y) (list_all P ys) h) e

none_left : (b : Bool) → not b ≡ true → b ≡ false
none_left true h = absurd (cc)
none_left false h = refl

times_one : (m : ℤ) → m *ℤ pos 1 ≡ m
unfolding lib.IntN.one
times_one m = *ℤ-one m

nonpositive : (m w : ℤ) → pos 0 ≤ℤ m → w ≤ℤ pos 0 → (m *ℤ w) ≤ℤ pos 0
nonpositive (pos a) (pos zero) h k = let z = *ℤ-zero (pos a) in omega (arith, ints, z)
nonpositive (pos a) (pos (suc b)) h k = absurd (omega (arith, ints))
nonpositive (pos a) (negsuc b) h k = let z = pos-*ℤ-negsuc a b in omega (arith, ints, z)
nonpositive (negsuc a) w h k = absurd (omega (arith, ints))

-- a relation that holds, with a multiplier that it may have
at_most : (m w : ℤ) (b : Bool) → (b || int_le (pos 0) m) ≡ true → meets b w ≡ true → (m *ℤ w) ≤ℤ pos 0
at_most m w true h k =
    let z = ap (λ x. m *ℤ x) ((Decides-int_eq w (pos 0)).0 k) ∙ *ℤ-zero m in
    omega (arith, ints, z)
at_most m w false h k = nonpositive m w (le_z_yes (subst T (sym h) tt)) (le_z_yes (subst T (sym k) tt))

module _ (v : Unknown → ℤ) (one : v bare_one ≡ pos 1) where
  bare_one-worth : (by n : ℤ) (s : Form) → form_worth v (plus_number by n s) ≡ form_worth v s +ℤ by *ℤ n
  bare_one-worth by n s = omega (arith, ints)

  term-worth : (by : ℤ) (t : Term) (s : Form) → form_worth v (plus_term by t s) ≡ form_worth v s +ℤ by *ℤ term_worth v t
  term-worth by t s = step (is_bare_one t.0) refl
    where
      step : (b : Bool) → is_bare_one t.0 ≡ b
          → form_worth v (if b then plus_number by t.1 s else record s { terms = with_term (multiple by t) s.terms })
          ≡ form_worth v s +ℤ by *ℤ term_worth v t
      step true e =
          let same = ap (λ w. by *ℤ (t.1 *ℤ w)) (ap v ((unknown_decides t.0 bare_one).0 e) ∙ one) in
          let all : by *ℤ (t.1 *ℤ v t.0) ≡ by *ℤ t.1 = same ∙ ap (λ w. by *ℤ w) (times_one t.1) in
          omega (arith, ints, all)
      step false e =
          let a = worth-with_term v unknown_eq unknown_decides t.0 (by *ℤ t.1) s.terms in
          let b = times_times by t.1 (v t.0) in
          omega (arith, ints, a, b)

  terms-worth : (by : ℤ) (ts : List Term) (s : Form) → form_worth v (plus_terms by ts s) ≡ form_worth v s +ℤ by *ℤ worth v ts
  terms-worth by [] s = let z = *ℤ-zero by in omega (arith, ints, z)
  terms-worth by (t ∷ ts) s =
      let h = terms-worth by ts (plus_term by t s) in
      let first = term-worth by t s in
      let all = times_sum by (term_worth v t) (worth v ts) in
      omega (arith, ints, h, first, all)

  pub plus-worth : (by : ℤ) (g s : Form) → form_worth v (plus_multiple by g s) ≡ form_worth v s +ℤ by *ℤ form_worth v g
  plus-worth by g s =
      let a = terms-worth by g.terms s in
      let c = times_sum by (worth v g.terms) g.constant in
      omega (arith, ints, a, c)

  -- terms that are all zero are worth nothing
  worth-none : (ts : List Term) → list_any is_left ts ≡ false → worth v ts ≡ pos 0
  worth-none [] h = refl
  worth-none (t ∷ ts) h = by (int_eq t.1 (pos 0)) refl h (worth-none ts)
    where
      by : (b : Bool) → int_eq t.1 (pos 0) ≡ b → (not b || list_any is_left ts) ≡ false
          → (list_any is_left ts ≡ false → worth v ts ≡ pos 0) → worth v (t ∷ ts) ≡ pos 0
      by true e k ih =
          let none = ap (λ z. z *ℤ v t.0) ((Decides-int_eq t.1 (pos 0)).0 e) ∙ zero-*ℤ (v t.0) in
          let rest = ih k in
          omega (arith, ints, none, rest)
      by false e k ih = absurd (cc)

  -- the sum of relations that hold is worth no more than what it began with
  sum-worth : (rels : List Rel) → list_all (rel_holds v) rels ≡ true → (ps : List Pair) → signs rels ps ≡ true → (s : Form)
      → form_worth v (weighted rels ps s) ≤ℤ form_worth v s
  sum-worth rels holds [] h s = omega (arith, ints)
  sum-worth rels holds (p ∷ ps) h s =
      by (slice_get rels p.0) refl (first_so (may_have p.1 (slice_get rels p.0)) (signs rels ps) h)
      (sum-worth rels holds ps (second_so (may_have p.1 (slice_get rels p.0)) (signs rels ps) h)
      (plus_relation p.1 (slice_get rels p.0) s))
    where
      by : (o : Option Rel) → slice_get rels p.0 ≡ o → may_have p.1 o ≡ true
          → form_worth v (weighted rels ps (plus_relation p.1 o s)) ≤ℤ form_worth v (plus_relation p.1 o s)
          → form_worth v (weighted rels ps (plus_relation p.1 o s)) ≤ℤ form_worth v s
      by None e may ih = ih
      by (Some r) e may ih =
          let one = plus-worth p.1 r.form s in
          let here = all_here (rel_holds v) rels p.0 r holds e in
          let least = at_most p.1 (form_worth v r.form) r.equal may here in
          omega (arith, ints, one, least, ih)

-- multipliers that refute show that there is no solution
pub refuted : (rels : List Rel) (ps : List Pair) → refutes_all rels ps ≡ true → HaveNoSolution rels
refuted rels ps h v one holds =
    let parts = second_so (rises 0 (length rels) ps) (signs rels ps && is_positive (weighted rels ps nothing)) h in
    let sign = first_so (signs rels ps) (is_positive (weighted rels ps nothing)) parts in
    let positive = second_so (signs rels ps) (is_positive (weighted rels ps nothing)) parts in
    let least = sum-worth v one rels holds ps sign nothing in
    let s = weighted rels ps nothing in
    let none = none_left (list_any is_left s.terms) (first_so (not (list_any is_left s.terms)) (int_lt (pos 0) s.constant) positive) in
    let zero = worth-none v one s.terms none in
    let above = lt_z_yes {a = pos 0} {b = s.constant}
    (subst T (sym (second_so (not (list_any is_left s.terms)) (int_lt (pos 0) s.constant) positive)) tt) in
    absurd (omega (arith, ints, least, zero, above))

pub law_holds : (rels both : List Rel) (ps : List Pair) (told : Bool) → both ≡ rels → told ≡ refutes_all both ps → IsTrue told
    → HaveNoSolution rels
law_holds rels both ps told e h t = subst (λ (l : List Rel). HaveNoSolution l) e (refuted both ps (sym h ∙ t))
