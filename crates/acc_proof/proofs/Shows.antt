-- What is shown is true wherever what is known is.
use Rattle.std.proofs.Common.{◌≡◌, Bool, true, false, List, [], ◌∷◌, ◌++◌, map, refl, arith, ℤ, pos, negsuc, ◌+ℤ◌}
use Rattle.std.proofs.Common.{neg_ℤ, if◌then◌else◌}
use Rattle.std.specs.Prelude.{◌≤ℤ◌}
use Rattle.std.proofs.lemmas.Int.{ints}
use Rattle.std.proofs.lemmas.Bool.Decides.{Decides-int_eq}
use borrow.Author.Differences.{le-false}
use Rattle.acc_base.specs.declared.tables.Row.{Row}
use Rattle.acc_base.specs.declared.forms.Form.{Form}
use Rattle.acc_base.specs.declared.forms.Rel.{Rel}
use Rattle.acc_base.specs.Linear.{meets}
use Rattle.acc_base.specs.Truth.{unknown_value, form_value, rel_true}
use Rattle.acc_base.specs.Sums.{form_sum}
use Rattle.acc_base.proofs.SumLaws.{form_sum-value}
use Rattle.acc_farkas.specs.declared.refuting.Mults.{Mults}
use Rattle.acc_farkas.specs.Sums.{refutes_all, is_refuting_wide}
use Rattle.acc_farkas.specs.Solutions.{HaveNoSolution}
use Rattle.acc_farkas.proofs.Worths.{refuted as no_solution}
use Rattle.acc_instanced.specs.Instances.{Fact}
use Rattle.acc_instanced.proofs.PartValues.{one_times, minus_times}
use Rattle.acc_proof.specs.Checked.{Gives, Fails, and_then}
use Rattle.acc_proof.specs.Facts.{one, below_zero, is_below_wide, above_zero, is_above_wide, refuted, excluded, shown, fact_shown}
use Rattle.acc_proof.specs.Facts.{all_shown}
use Rattle.acc_axioms.specs.Truths.{all_true}
use Rattle.acc_axioms.proofs.Tests.{le_yes, both_true, off_true, all_both}
use Rattle.acc_proof.proofs.GoingOn.{goes_on, not_wide, may}

pub are_refuted : (rels : List Rel) (ms left : List Mults) → refuted rels ms ≡ Gives left → HaveNoSolution rels
are_refuted rels [] left h = absurd (cc)
are_refuted rels (m ∷ ms) left h =
    no_solution rels m.of (may (refutes_all rels m.of) (Gives ms) left
    (not_wide (is_refuting_wide rels m.of) (if refutes_all rels m.of then Gives ms else Fails) left h)).0

module _ (db : List Row) (env : List ℤ) where
  abbrev pub value : Form → ℤ
  value f = form_value db env f

  pub below_value : (f : Form) → value (form_sum f (pos 1) one) ≡ value f +ℤ pos 1
  below_value f =
      let h = form_sum-value db env f (pos 1) one in
      let t = one_times (value one) in
      let v : value one ≡ pos 1 = omega (arith, ints) in
      omega (arith, ints, h, t, v)

  pub above_value : (f : Form) → value (form_sum one (negsuc 0) f) ≡ pos 1 +ℤ neg_ℤ (value f)
  above_value f =
      let h = form_sum-value db env one (negsuc 0) f in
      let t = minus_times (value f) in
      let v : value one ≡ pos 1 = omega (arith, ints) in
      omega (arith, ints, h, t, v)

  module _ (known : List Rel) (holds : all_true db env known ≡ true) where
    pub is_excluded : (wide : Bool) (r : Rel) (ms left : List Mults) → excluded known wide r ms ≡ Gives left → rel_true db env r ≡ false
    is_excluded wide r ms left h =
        off_true (rel_true db env r) (λ e. are_refuted (known ++ r ∷ []) ms left (not_wide wide (refuted (known ++ r ∷ []) ms) left h)
        (unknown_value db env) refl (all_both (rel_true db env) known (r ∷ []) holds (both_true (rel_true db env r) true e refl)))

    pub not_above : (f : Form) → rel_true db env (above_zero f) ≡ false → value f ≤ℤ pos 0
    not_above f h =
        let over = le-false (value (form_sum one (negsuc 0) f)) (pos 0) h in
        let v = above_value f in
        omega (arith, ints, over, v)

    not_below : (f : Form) → rel_true db env (below_zero f) ≡ false → pos 0 ≤ℤ value f
    not_below f h =
        let over = le-false (value (form_sum f (pos 1) one)) (pos 0) h in
        let v = below_value f in
        omega (arith, ints, over, v)

    shown_by : (e : Bool) (f : Form) (ms left : List Mults)
        → (if e then and_then (excluded known (is_below_wide f) (below_zero f))
        (excluded known (is_above_wide f) (above_zero f) ms) else excluded known (is_above_wide f) (above_zero f) ms) ≡ Gives left → meets e (value f)
        ≡ true
    shown_by true f ms left h =
        let parts = goes_on (excluded known (is_below_wide f) (below_zero f)) (excluded known (is_above_wide f) (above_zero f) ms) left h in
        let up = not_above f (is_excluded (is_above_wide f) (above_zero f) ms parts.0 parts.1) in
        let down = not_below f (is_excluded (is_below_wide f) (below_zero f) parts.0 left parts.2) in
        (Decides-int_eq (value f) (pos 0)).1 (omega (arith, ints, up, down))
    shown_by false f ms left h =
        le_yes (value f) (pos 0) (not_above f (is_excluded (is_above_wide f) (above_zero f) ms left h))

    pub is_shown : (r : Rel) (ms left : List Mults) → shown known r ms ≡ Gives left → rel_true db env r ≡ true
    is_shown r ms left h = shown_by r.equal r.form ms left h

    pub are_shown : (fs : List Fact) (ms left : List Mults) → all_shown known fs ms ≡ Gives left →
        all_true db env (map (λ f. f.rel) fs) ≡ true
    are_shown [] ms left h = refl
    are_shown (f ∷ fs) ms left h =
        let parts = goes_on (all_shown known fs) (fact_shown known f ms) left h in
        both_true (rel_true db env f.rel) (all_true db env (map (λ g. g.rel) fs))
        (is_shown f.rel ms parts.0 (not_wide f.wide (shown known f.rel ms) parts.0 parts.1)) (are_shown fs parts.0 left parts.2)
