-- A form at linear values, term by term.
use Rattle.std.proofs.Common.{◌≡◌, ℕ, ◌+◌, ◌<◌, false, List, ◌∷◌, length, get_or, drop, ap, sym, ◌∙◌, ℤ, pos, ◌||◌}
use Rattle.std.proofs.lemmas.List.{drop_more}
use Rattle.acc_base.specs.declared.forms.Lin.{Lin}
use Rattle.acc_base.specs.declared.forms.Form.{Form}
use Rattle.acc_base.specs.Sums.{Term}
use Rattle.acc_instanced.specs.Coefficients.{Coefficient}
use Rattle.acc_instanced.specs.Summands.{with_summands}
use Rattle.acc_instanced.specs.Instances.{value_for, plus_part, plus_parts, is_part_long, are_parts_long, term_at, raw_from, is_term_wide}
use Rattle.acc_instanced.specs.Instances.{are_terms_wide}

module _ (n : ℕ) (own : List Lin) (terms : List Term) (i : ℕ) (d : Term) (within : i < length terms) (here : d ≡ get_or terms i d) (m : ℤ)
    (number : m ≡ d.1) (g new : Form) (added : new ≡ with_summands (term_at n own (d.0, m)) g) where
  one_more : drop i terms ≡ (d.0, m) ∷ drop (i + 1) terms
  one_more =
      drop_more terms i d within ∙ (ap (λ (x : Term). x ∷ drop (i + 1) terms) (sym here)
      ∙ ap (λ (z : ℤ). (d.0, z) ∷ drop (i + 1) terms) (sym number))

  pub raw_step : raw_from n own (drop (i + 1) terms) new ≡ raw_from n own (drop i terms) g
  raw_step =
      ap (raw_from n own (drop (i + 1) terms)) added ∙ sym (ap (λ (ts : List Term). raw_from n own ts g) one_more)

  pub wide_step : is_term_wide n own (d.0, m) g ≡ false → are_terms_wide n own (drop (i + 1) terms) new
      ≡ are_terms_wide n own (drop i terms) g
  wide_step f =
      ap (are_terms_wide n own (drop (i + 1) terms)) added
      ∙ (ap (λ b. b || are_terms_wide n own (drop (i + 1) terms) (with_summands (term_at n own (d.0, m)) g)) (sym f)
      ∙ sym (ap (λ (ts : List Term). are_terms_wide n own ts g) one_more))

abbrev item : List Coefficient → ℕ → Coefficient
item ks i = get_or ks i (0, pos 0)

module _ (n : ℕ) (own : List Lin) (ks : List Coefficient) (i : ℕ) (within : i < length ks) (c : ℤ) (number : c ≡ (item ks i).1)
    (s new : Lin) (added : new ≡ plus_part n own ((item ks i).0, c) (value_for n own (item ks i).0) s) where
  one_part : drop i ks ≡ ((item ks i).0, c) ∷ drop (i + 1) ks
  one_part =
      drop_more ks i (0, pos 0) within ∙ ap (λ (z : ℤ). ((item ks i).0, z) ∷ drop (i + 1) ks) (sym number)

  pub part_step : plus_parts n own (drop (i + 1) ks) new ≡ plus_parts n own (drop i ks) s
  part_step =
      ap (plus_parts n own (drop (i + 1) ks)) added ∙ sym (ap (λ (xs : List Coefficient). plus_parts n own xs s) one_part)

  pub long_step : is_part_long n own ((item ks i).0, c) (value_for n own (item ks i).0) s ≡ false
      → are_parts_long n own (drop (i + 1) ks) new ≡ are_parts_long n own (drop i ks) s
  long_step f =
      ap (are_parts_long n own (drop (i + 1) ks)) added
      ∙ (ap (λ b. b || are_parts_long n own (drop (i + 1) ks) (plus_part n own ((item ks i).0, c) (value_for n own (item ks i).0) s))
      (sym f) ∙ sym (ap (λ (xs : List Coefficient). are_parts_long n own xs s) one_part))
