-- A hypothesis at linear values is worth in the variables what it is worth at the numbers that the values are worth.
use Rattle.std.proofs.Common.{◌≡◌, ℕ, ◌+◌, ◌-◌, ◌≤◌, Bool, true, false, List, [], ◌∷◌, ◌++◌, length, map, refl, ap, sym, ◌∙◌}
use Rattle.std.proofs.Common.{subst, arith, ℤ, pos, ◌+ℤ◌, ◌*ℤ◌, if◌then◌else◌, Option, Some, None, nat_lt}
use Rattle.std.specs.Prelude.{slice_get, slice_index_or, ◌&&◌, IfOk, Result, Ok, Err}
use Rattle.std.specs.Option.{option_map, unwrap_or}
use Rattle.std.specs.Ordering.{int_eq}
use Rattle.std.specs.List.{list_all}
use Rattle.std.proofs.lemmas.Int.{ints}
use Rattle.std.proofs.lemmas.Bool.Decides.{nat_tests}
use Rattle.std.proofs.lemmas.Bool.{ltb-true}
use Rattle.std.proofs.lemmas.List.{get_or_past, get_or-append-add, get_or_append_left}
use Rattle.std.proofs.lemmas.Option.{slice_get-map, unwrap_or-slice_get}
use lib.IntN.{*ℤ-zero}
use Rattle.acc_base.specs.declared.tables.Row.{Row}
use Rattle.acc_base.specs.declared.forms.Lin.{Lin}
use Rattle.acc_base.specs.declared.forms.Atom.{Atom}
use Rattle.acc_base.specs.declared.forms.Atom.TheVariants.{One, Var, Has, Col, Count, Sum}
use Rattle.acc_base.specs.declared.forms.Form.{Form}
use Rattle.acc_base.specs.declared.forms.Rel.{Rel}
use Rattle.acc_base.specs.declared.sums.FormSum.{FormSum}
use Rattle.acc_base.specs.Numbers.{total}
use Rattle.acc_base.specs.Linear.{meets, var, term_value, lin_value, lin_values}
use Rattle.acc_base.specs.Tables.{has_row, column_of, count_of, sum_of}
use Rattle.acc_base.specs.Truth.{atom_value, is_lin_zero, unknown_value, product_value, form_value, rel_true}
use Rattle.acc_base.specs.Sums.{Term}
use Rattle.acc_base.proofs.Products.{times_sum, times_times}
use Rattle.acc_base.proofs.SumLaws.{form_sum-value}
use Rattle.acc_instanced.specs.Coefficients.{Coefficient}
use Rattle.acc_instanced.specs.Meanings.{IsInstance}
use Rattle.acc_instanced.specs.Summands.{lin_parts, with_summands}
use Rattle.acc_instanced.proofs.CoefficientValues.{worth-with, worth-all, worth-left}
use Rattle.acc_instanced.proofs.PartValues.{one_times, parts_value, lin_parts_value}
use Rattle.acc_instanced.proofs.SummandValues.{parts_worth, summands_value}
use Rattle.acc_instanced.specs.Instances.{value_for, scaled, plus_part, plus_parts, zero_lin, lin_at, atom_at, value_of, parts_at, term_at}
use Rattle.acc_instanced.specs.Instances.{raw_from, raw_at, nothing, form_at, fact_at}

module _ (own : List Lin) (db : List Row) (env : List ℤ) where
  abbrev pub n : ℕ
  n = length env

  -- the variables' values, and behind them those of the own variables
  abbrev pub both : List ℤ
  both = env ++ lin_values env own

  abbrev given : ℕ → Option Lin → ℤ
  given x None = var env x
  given x (Some l) = lin_value env l

  abbrev coefficients_worth : List Coefficient → ℤ
  coefficients_worth cs = total (map (term_value env) cs)

  -- a variable, or what stands for it
  variable : (x : ℕ) → given x (value_for n own x) ≡ var both x
  variable x = by (nat_lt x n) refl
    where
      behind : (o : Option Lin) → slice_get own (x - n) ≡ o → n ≤ x → var both x ≡ unwrap_or (option_map (lin_value env) o) (pos 0)
      behind o e h =
          let place : x ≡ n + (x - n) = omega (arith, h) in
          ap (λ (i : ℕ). slice_index_or both i (pos 0)) place
          ∙ (get_or-append-add env (lin_values env own) (x - n) (pos 0)
          ∙ (sym (unwrap_or-slice_get (lin_values env own) (x - n) (pos 0))
          ∙ ap (λ (p : Option ℤ). unwrap_or p (pos 0)) (slice_get-map (lin_value env) own (x - n) ∙ ap (option_map (lin_value env)) e)))

      past : (o : Option Lin) → slice_get own (x - n) ≡ o → n ≤ x → given x o ≡ var both x
      past None e h = get_or_past env x (pos 0) h ∙ sym (behind None e h)
      past (Some l) e h = sym (behind (Some l) e h)

      by : (b : Bool) → nat_lt x n ≡ b → given x (if b then None else slice_get own (x - n)) ≡ var both x
      by true e = sym (get_or_append_left env (lin_values env own) (pos 0) x (ltb-true x n e))
      by false e = past (slice_get own (x - n)) refl (grind (arith, nat_tests))

  -- ---- linear values

  scaled_worth : (c : ℤ) (ks : List Coefficient) → coefficients_worth (map (scaled c) ks) ≡ c *ℤ coefficients_worth ks
  scaled_worth c [] = sym (*ℤ-zero c)
  scaled_worth c (k ∷ ks) =
      let h = scaled_worth c ks in
      let one = times_times c k.1 (var env k.0) in
      let all = times_sum c (term_value env k) (coefficients_worth ks) in
      omega (arith, ints, h, one, all)

  part_value : (k : Coefficient) (s : Lin) → lin_value env (plus_part n own k (value_for n own k.0) s) ≡ lin_value env s
      +ℤ term_value both k
  part_value k s = by (value_for n own k.0) (variable k.0)
    where
      by : (o : Option Lin) → given k.0 o ≡ var both k.0 → lin_value env (plus_part n own k o s) ≡ lin_value env s +ℤ term_value both k
      by None e =
          let h = ap (λ z. k.1 *ℤ z) e in
          let w = worth-with env k s.coeffs in
          omega (arith, ints, h, w)
      by (Some l) e =
          let h = ap (λ z. k.1 *ℤ z) e in
          let w = worth-all env s.coeffs (map (scaled k.1) l.coeffs) in
          let c = scaled_worth k.1 l.coeffs in
          let t = times_sum k.1 (coefficients_worth l.coeffs) l.constant in
          omega (arith, ints, h, w, c, t)

  parts_value_is : (ks : List Coefficient) (s : Lin) → lin_value env (plus_parts n own ks s) ≡ lin_value env s
      +ℤ total (map (term_value both) ks)
  parts_value_is [] s = omega (arith, ints)
  parts_value_is (k ∷ ks) s =
      let h = parts_value_is ks (plus_part n own k (value_for n own k.0) s) in
      let one = part_value k s in
      omega (arith, ints, h, one)

  pub lin_at_value : (l : Lin) → lin_value env (lin_at n own l) ≡ lin_value both l
  lin_at_value l =
      let left = worth-left env (plus_parts n own l.coeffs zero_lin).coeffs in
      let all = parts_value_is l.coeffs zero_lin in
      omega (arith, ints, left, all)

  lins_at : (ls : List Lin) → lin_values env (map (lin_at n own) ls) ≡ lin_values both ls
  lins_at [] = refl
  lins_at (l ∷ ls) = λ i. lin_at_value l i ∷ lins_at ls i

  -- ---- unknowns

  atom_at_value : (a : Atom) → value_of n own a ≡ None → atom_value db env (atom_at n own a) ≡ atom_value db both a
  atom_at_value One e = refl
  atom_at_value (Var x) e = sym (ap (given x) e) ∙ variable x
  atom_at_value (Has t k) e = ap (has_row db t) (lins_at k)
  atom_at_value (Col t k c) e = ap (λ key. column_of db t key c) (lins_at k)
  atom_at_value (Count t p) e = ap (count_of db t) (lins_at p)
  atom_at_value (Sum t p c) e = ap (λ key. sum_of db t key c) (lins_at p)

  own_value : (a : Atom) (l : Lin) → value_of n own a ≡ Some l → atom_value db both a ≡ lin_value env l
  own_value One l e = absurd (cc)
  own_value (Var x) l e = sym (variable x) ∙ ap (given x) e
  own_value (Has t k) l e = absurd (cc)
  own_value (Col t k c) l e = absurd (cc)
  own_value (Count t p) l e = absurd (cc)
  own_value (Sum t p c) l e = absurd (cc)

  under_at : (ls : List Lin) → list_all (is_lin_zero env) (map (lin_at n own) ls) ≡ list_all (is_lin_zero both) ls
  under_at [] = refl
  under_at (l ∷ ls) = λ i. int_eq (lin_at_value l i) (pos 0) && under_at ls i

  -- ---- forms

  abbrev terms_worth : List ℤ → List Term → ℤ
  terms_worth e ts = total (map (product_value db e) ts)

  term_at_value : (t : Term) → terms_worth env (term_at n own t) ≡ product_value db both t
  term_at_value t = by (value_of n own t.0.atom) refl
    where
      same : (if list_all (is_lin_zero env) (map (lin_at n own) t.0.under) then atom_value db both t.0.atom else pos 0)
          ≡ unknown_value db both t.0
      same = ap (λ b. if b then atom_value db both t.0.atom else pos 0) (under_at t.0.under)

      inside : (b : Bool) (l : Lin) → value_of n own t.0.atom ≡ Some l → (if b then t.1 *ℤ parts_value db env (lin_parts l) else pos 0)
          ≡ t.1 *ℤ (if b then atom_value db both t.0.atom else pos 0)
      inside true l e = ap (λ z. t.1 *ℤ z) (lin_parts_value db env l ∙ sym (own_value t.0.atom l e))
      inside false l e = sym (*ℤ-zero t.1)

      by : (o : Option Lin) → value_of n own t.0.atom ≡ o → terms_worth env (parts_at n own (map (lin_at n own) t.0.under) t.0.atom t.1 o)
          ≡ product_value db both t
      by None e =
          let v = ap (λ z. t.1 *ℤ (if list_all (is_lin_zero env) (map (lin_at n own) t.0.under) then z else pos 0))
          (atom_at_value t.0.atom e) in
          let w = ap (λ z. t.1 *ℤ z) same in
          omega (arith, ints, v, w)
      by (Some l) e =
          parts_worth db env (map (lin_at n own) t.0.under) t.1 (lin_parts l)
          ∙ (inside (list_all (is_lin_zero env) (map (lin_at n own) t.0.under)) l e ∙ ap (λ z. t.1 *ℤ z) same)

  raw_value : (ts : List Term) (g : Form) → form_value db env (raw_from n own ts g) ≡ form_value db env g +ℤ terms_worth both ts
  raw_value [] g = omega (arith, ints)
  raw_value (t ∷ ts) g =
      let h = raw_value ts (with_summands (term_at n own t) g) in
      let one = term_at_value t in
      let here = summands_value db env (term_at n own t) g in
      omega (arith, ints, h, one, here)

  pub form_at_value : (f : Form) → form_value db env (form_at n own f) ≡ form_value db both f
  form_at_value f =
      let sum = form_sum-value db env nothing (pos 1) (raw_at n own f) in
      let one = one_times (form_value db env (raw_at n own f)) in
      let raw = raw_value f.terms (record { terms = []; constant = f.constant }) in
      omega (arith, ints, sum, one, raw)

  pub fact_at_true : (r : Rel) → rel_true db env (fact_at n own r).rel ≡ rel_true db both r
  fact_at_true r = ap (λ z. meets r.equal z) (form_at_value r.form)

  pub facts_at_true : (rs : List Rel) → list_all (rel_true db env) (map (λ f. f.rel) (map (fact_at n own) rs))
      ≡ list_all (rel_true db both) rs
  facts_at_true [] = refl
  facts_at_true (r ∷ rs) = λ i. fact_at_true r i && facts_at_true rs i

pub is_instance : (n : ℕ) (own : List Lin) (r : Rel) → IsInstance n own r (fact_at n own r).rel
is_instance n own r db env e =
    subst (λ (m : ℕ). rel_true db env (fact_at m own r).rel ≡ rel_true db (env ++ lin_values env own) r) e (fact_at_true own db env r)

pub law_holds : (n : ℕ) (own : List Lin) (r : Rel) (x : Result Rel FormSum) → IfOk x (λ y. y ≡ (fact_at n own r).rel)
    → IfOk x (λ y. IsInstance n own r y)
law_holds n own r (Ok y) e = subst (λ (z : Rel). IsInstance n own r z) (sym e) (is_instance n own r)
law_holds n own r (Err why) h = tt
