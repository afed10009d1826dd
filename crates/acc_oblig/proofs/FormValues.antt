-- What the forms of a sequent's relations are worth.
use Rattle.std.proofs.Common.{◌≡◌, ℕ, ◌^◌, ◌≤◌, Bool, true, false, if◌then◌else◌, List, [], ◌∷◌, map, refl, ap, sym, ◌∙◌, arith, ℤ, pos}
use Rattle.std.proofs.Common.{negsuc, neg_ℤ, ◌+ℤ◌, ◌*ℤ◌, ◌≤ℤ◌}
use Rattle.std.specs.Prelude.{int_le, ◌&&◌}
use Rattle.std.specs.Ordering.{int_eq}
use Rattle.std.specs.List.{list_all}
use Rattle.std.proofs.lemmas.Int.{ints}
use Rattle.std.proofs.lemmas.Bool.{false≢true}
use Rattle.std.proofs.lemmas.Bool.Decides.{Decides-int_eq, nat_tests}
use Rattle.acc_base.specs.declared.tables.Row.{Row}
use Rattle.acc_base.specs.declared.forms.Lin.{Lin}
use Rattle.acc_base.specs.declared.forms.LinRel.{LinRel}
use Rattle.acc_base.specs.declared.forms.Atom.{Atom}
use Rattle.acc_base.specs.declared.forms.Form.{Form}
use Rattle.acc_base.specs.Numbers.{total, IsSmall}
use Rattle.acc_base.specs.Linear.{var, term_value, lin_value, meets, lin_rel_true}
use Rattle.acc_base.specs.Truth.{atom_value, is_lin_zero, unknown_value, product_value, form_value, rel_true}
use Rattle.acc_base.specs.Sums.{Term}
use Rattle.acc_preconditions.proofs.PartValues.{one_times, minus_times}
use Rattle.acc_base.proofs.Products.{sum_times}
use Rattle.acc_oblig.specs.declared.naming.Naming.{Naming}
use Rattle.acc_oblig.specs.Naming.{named_lin}
use Rattle.acc_oblig.specs.Relations.{coefficient_term, lin_form, negated_term, negated, plus_number, is_at_most_bound}
use Rattle.acc_oblig.specs.Relations.{is_at_least_minus_bound, is_number}
use Rattle.acc_oblig.specs.Relations.{is_nothing, is_value, is_lin, guard_rel, denied, not_all_none}
use Rattle.acc_oblig.proofs.Names.{Agrees, lin_named}

-- ---- tests

pub zero_meets : (x : ℤ) → x ≡ pos 0 → int_eq x (pos 0) ≡ true
zero_meets x h = (Decides-int_eq x (pos 0)).1 h

pub meets_zero : (x : ℤ) → int_eq x (pos 0) ≡ true → x ≡ pos 0
meets_zero x h = (Decides-int_eq x (pos 0)).0 h

pub int_le_true : (x y : ℤ) → x ≤ℤ y → int_le x y ≡ true
int_le_true x y h = grind (arith, ints, nat_tests)

pub int_le_holds : (x y : ℤ) → int_le x y ≡ true → x ≤ℤ y
int_le_holds x y h = grind (arith, ints, nat_tests)

pub neg_times : (a v : ℤ) → neg_ℤ a *ℤ v ≡ neg_ℤ (a *ℤ v)
neg_times a v =
    let h = sum_times a (neg_ℤ a) v in
    let e : a +ℤ neg_ℤ a ≡ pos 0 = omega (arith, ints) in
    let z = ap (λ x. x *ℤ v) e in
    omega (arith, ints, h, z)

module _ (db : List Row) (E : List ℤ) where
  abbrev pub worth : List Term → ℤ
  worth ts = total (map (product_value db E) ts)

  -- ---- forms

  pub lin_worth : (cs : List (ℕ × ℤ)) → worth (map coefficient_term cs) ≡ total (map (term_value E) cs)
  lin_worth [] = refl
  lin_worth (c ∷ cs) = ap (λ z. (c.1 *ℤ var E c.0) +ℤ z) (lin_worth cs)

  pub lin_form_value : (l : Lin) → form_value db E (lin_form l) ≡ lin_value E l
  lin_form_value l = ap (λ z. z +ℤ l.constant) (lin_worth l.coeffs)

  pub negated_worth : (ts : List Term) → worth (map negated_term ts) ≡ neg_ℤ (worth ts)
  negated_worth [] = refl
  negated_worth (t ∷ ts) =
      let h = negated_worth ts in
      let g = neg_times t.1 (unknown_value db E t.0) in
      omega (arith, ints, h, g)

  pub negated_value : (f : Form) → form_value db E (negated f) ≡ neg_ℤ (form_value db E f)
  negated_value f = let h = negated_worth f.terms in omega (arith, ints, h)

  pub plus_value : (f : Form) (n : ℤ) → form_value db E (plus_number f n) ≡ form_value db E f +ℤ n
  plus_value f n = omega (arith, ints)

  -- ---- bounds

  small_above : (x : ℤ) → IsSmall x → ((pos 1 *ℤ x +ℤ pos 0) +ℤ neg_ℤ (pos (2 ^ 45))) ≤ℤ pos 0
  small_above x h = let e = one_times x in grind (arith, ints)

  small_below : (x : ℤ) → IsSmall x → ((negsuc 0 *ℤ x +ℤ pos 0) +ℤ neg_ℤ (pos (2 ^ 45))) ≤ℤ pos 0
  small_below x h = let e = minus_times x in grind (arith, ints)

  number_first : (x : ℕ) (v : ℤ) → v ≡ pos x → 1 ≤ x → ((negsuc 0 *ℤ v +ℤ pos 0) +ℤ pos 1) ≤ℤ pos 0
  number_first x v h g = let e = minus_times v in omega (arith, ints)

  pub is_at_most_bound_true : (x : ℕ) → IsSmall (var E x) → rel_true db E (is_at_most_bound x) ≡ true
  is_at_most_bound_true x h = int_le_true _ _ (small_above (var E x) h)

  pub is_at_least_minus_bound_true : (x : ℕ) → IsSmall (var E x) → rel_true db E (is_at_least_minus_bound x) ≡ true
  is_at_least_minus_bound_true x h = int_le_true _ _ (small_below (var E x) h)

  pub is_number_true : (x t : ℕ) → var E x ≡ pos t → 1 ≤ t → rel_true db E (is_number x) ≡ true
  is_number_true x t h g = int_le_true _ _ (number_first t (var E x) h g)

  nothing_worth : (v : ℤ) → v ≡ pos 0 → (pos 1 *ℤ v +ℤ pos 0) +ℤ pos 0 ≡ pos 0
  nothing_worth v h = let e = one_times v in omega (arith, ints)

  pub is_nothing_true : (x : ℕ) → var E x ≡ pos 0 → rel_true db E (is_nothing x) ≡ true
  is_nothing_true x h = zero_meets _ (nothing_worth (var E x) h)

  -- ---- values

  same_worth : (x y : ℤ) → x ≡ y → (pos 1 *ℤ x +ℤ (negsuc 0 *ℤ y +ℤ pos 0)) +ℤ pos 0 ≡ pos 0
  same_worth x y h =
      let e = one_times x in
      let f = minus_times y in
      omega (arith, ints)

  pub is_value_true : (x : ℕ) (a : Atom) → var E x ≡ atom_value db E a → rel_true db E (is_value x a) ≡ true
  is_value_true x a h = zero_meets _ (same_worth (var E x) (atom_value db E a) h)

  pub is_lin_true : (x : ℕ) (l : Lin) → var E x ≡ lin_value E l → rel_true db E (is_lin x l) ≡ true
  is_lin_true x l h =
      let one = one_times (var E x) in
      let neg = negated_worth (map coefficient_term l.coeffs) in
      let lin = lin_worth l.coeffs in
      let e : (pos 1 *ℤ var E x +ℤ worth (map negated_term (map coefficient_term l.coeffs))) +ℤ neg_ℤ l.constant ≡ pos 0 =
      omega (arith, ints, one, neg, lin, h) in
      zero_meets _ e

  -- where not all of them are 0
  pub differ_true : (under : List Lin) → list_all (is_lin_zero E) under ≡ false → rel_true db E (not_all_none under) ≡ true
  differ_true under h = ap (λ b. int_eq ((pos 1 *ℤ (if b then pos 1 else pos 0) +ℤ pos 0) +ℤ pos 0) (pos 0)) h

  -- ---- guards

  module _ (n : Naming) (e : List ℤ) (agree : Agrees n E e) where
    pub guard_true : (r : LinRel) → rel_true db E (guard_rel n r) ≡ lin_rel_true e r
    guard_true r = ap (meets r.equal) (lin_form_value (named_lin n r.lin) ∙ lin_named n E e agree r.lin)

    pub guards_true : (rs : List LinRel) → list_all (rel_true db E) (map (guard_rel n) rs) ≡ list_all (lin_rel_true e) rs
    guards_true [] = refl
    guards_true (r ∷ rs) = λ i. guard_true r i && guards_true rs i

    -- what isn't at most 0 is at least 1
    above_zero : (x y : ℤ) → y ≡ neg_ℤ x +ℤ pos 1 → int_le x (pos 0) ≡ false → int_le y (pos 0) ≡ true
    above_zero x y e h = grind (arith, ints, nat_tests)

    -- where a relation isn't true, its negation is
    pub denied_true : (r : LinRel) → lin_rel_true e r ≡ false → rel_true db E (denied n r) ≡ true
    denied_true r h = by r.equal refl h
      where
        v : ℤ
        v = lin_value E (named_lin n r.lin)

        worth_is : lin_value E (named_lin n r.lin) ≡ lin_value e r.lin
        worth_is = lin_named n E e agree r.lin

        under :
            (b : Bool) → int_eq (lin_value E (named_lin n r.lin)) (pos 0) ≡ b → b ≡ false
            → rel_true db E (not_all_none (named_lin n r.lin ∷ [])) ≡ true
        under true k g = absurd (false≢true (sym g))
        under false k g = ap (λ b. int_eq ((pos 1 *ℤ (if b && true then pos 1 else pos 0) +ℤ pos 0) +ℤ pos 0) (pos 0)) k

        by :
            (b : Bool) → r.equal ≡ b → meets b (lin_value e r.lin) ≡ false
            → rel_true db E (if b then not_all_none (named_lin n r.lin ∷ []) else record
            { form = plus_number (negated (lin_form (named_lin n r.lin))) (pos 1); equal = false }) ≡ true
        by true k g = under (int_eq (lin_value E (named_lin n r.lin)) (pos 0)) refl (ap (λ z. int_eq z (pos 0)) worth_is ∙ g)
        by false k g =
            let form = plus_value (negated (lin_form (named_lin n r.lin))) (pos 1) in
            let neg = negated_value (lin_form (named_lin n r.lin)) in
            let lin = lin_form_value (named_lin n r.lin) in
            let same : form_value db E (plus_number (negated (lin_form (named_lin n r.lin))) (pos 1)) ≡ neg_ℤ (lin_value e r.lin) +ℤ pos 1 =
            omega (arith, ints, form, neg, lin, worth_is) in
            above_zero (lin_value e r.lin) _ same g
