-- Hypotheses at linear values: these stand for the hypothesis's own variables, which come behind the first n.
use Rattle.std.specs.Prelude.{ℕ, ◌-◌, Bool, false, ◌||◌, if◌then◌else◌, List, [], ◌∷◌, map, filter, Option, Some, None, nat_lt}
use Rattle.std.specs.Prelude.{slice_get, ℤ, pos, ◌+ℤ◌, ◌*ℤ◌}
use Rattle.std.specs.List.{list_any}
use Rattle.acc_base.specs.declared.forms.Lin.{Lin}
use Rattle.acc_base.specs.declared.forms.Atom.{Atom}
use Rattle.acc_base.specs.declared.forms.Atom.TheVariants.{One, Var, Has, Col, Count, Sum}
use Rattle.acc_base.specs.declared.forms.Unknown.{Unknown}
use Rattle.acc_base.specs.declared.forms.Form.{Form}
use Rattle.acc_base.specs.declared.forms.Rel.{Rel}
use Rattle.acc_base.specs.Atoms.{key_of, with_key}
use Rattle.acc_base.specs.Sums.{Term, form_sum, is_sum_wide}
use Rattle.acc_instanced.specs.Coefficients.{Coefficient, with_coefficient, with_coefficients, enlarged, counts, is_long}
use Rattle.acc_instanced.specs.Summands.{lin_parts, part_summand, with_summands, are_summands_wide}

-- a relation that is computed, and whether a number of it is too large
pub record Fact : Type 0 where
  pub rel : Rel
  pub wide : Bool

abbrev pub scaled : ℤ → Coefficient → Coefficient
scaled c k = (k.0, c *ℤ k.1)

abbrev pub zero_lin : Lin
zero_lin = record { coeffs = []; constant = pos 0 }

abbrev pub finished : ℤ → Lin → Lin
finished constant s = record { coeffs = filter counts s.coeffs; constant = s.constant +ℤ constant }

-- whether a product, a coefficient as they are collected or a constant on the way needs more than 64 bits
abbrev pub are_scaled_long : ℤ → List Coefficient → List Coefficient → Bool
are_scaled_long c [] sums = false
are_scaled_long c (j ∷ js) sums =
    (is_long (c *ℤ j.1) || is_long (enlarged (scaled c j) sums)) || are_scaled_long c js (with_coefficient (scaled c j) sums)

abbrev pub nothing : Form
nothing = record { terms = []; constant = pos 0 }

module _ (n : ℕ) (own : List Lin) where
  -- what stands for a variable, if it is an own one
  abbrev pub value_for : ℕ → Option Lin
  value_for x = if nat_lt x n then None else slice_get own (x - n)

  -- ---- linear values

  -- a value so far, and a coefficient of it or a multiple of what stands for its variable
  abbrev pub plus_part : Coefficient → Option Lin → Lin → Lin
  plus_part k None s = record s { coeffs = with_coefficient k s.coeffs }
  plus_part k (Some l) s =
      record { coeffs = with_coefficients s.coeffs (map (scaled k.1) l.coeffs); constant = s.constant +ℤ k.1 *ℤ l.constant }

  abbrev pub plus_parts : List Coefficient → Lin → Lin
  plus_parts [] s = s
  plus_parts (k ∷ ks) s = plus_parts ks (plus_part k (value_for k.0) s)

  abbrev pub lin_at : Lin → Lin
  lin_at l = finished l.constant (plus_parts l.coeffs zero_lin)

  abbrev pub is_part_long : Coefficient → Option Lin → Lin → Bool
  is_part_long k None s = is_long (enlarged k s.coeffs)
  is_part_long k (Some l) s =
      (is_long (k.1 *ℤ l.constant) || is_long (s.constant +ℤ k.1 *ℤ l.constant)) || are_scaled_long k.1 l.coeffs s.coeffs

  abbrev pub are_parts_long : List Coefficient → Lin → Bool
  are_parts_long [] s = false
  are_parts_long (k ∷ ks) s = is_part_long k (value_for k.0) s || are_parts_long ks (plus_part k (value_for k.0) s)

  abbrev pub is_lin_long : Lin → Bool
  is_lin_long l =
      are_parts_long l.coeffs zero_lin || is_long ((plus_parts l.coeffs zero_lin).constant +ℤ l.constant)

  -- ---- unknowns

  -- an atom with its key or prefix at the values
  abbrev pub atom_at : Atom → Atom
  atom_at a = with_key a (map lin_at (key_of a))

  abbrev pub is_atom_long : Atom → Bool
  is_atom_long a = list_any is_lin_long (key_of a)

  -- what stands for an atom, if it is an own variable
  abbrev pub value_of : Atom → Option Lin
  value_of One = None
  value_of (Var x) = value_for x
  value_of (Has t k) = None
  value_of (Col t k c) = None
  value_of (Count t p) = None
  value_of (Sum t p c) = None

  -- ---- forms

  -- a term at the values: the value's terms and its constant in place of an own variable
  abbrev pub parts_at : List Lin → Atom → ℤ → Option Lin → List Term
  parts_at under atom m None = (record { under = under; atom = atom_at atom }, m) ∷ []
  parts_at under atom m (Some l) = map (part_summand under m) (lin_parts l)

  abbrev pub term_at : Term → List Term
  term_at t = parts_at (map lin_at t.0.under) t.0.atom t.1 (value_of t.0.atom)

  -- a number without condition goes to the constant, and then the terms are collected
  abbrev pub raw_from : List Term → Form → Form
  raw_from [] g = g
  raw_from (t ∷ ts) g = raw_from ts (with_summands (term_at t) g)

  abbrev pub raw_at : Form → Form
  raw_at f = raw_from f.terms (record { terms = []; constant = f.constant })

  abbrev pub form_at : Form → Form
  form_at f = form_sum nothing (pos 1) (raw_at f)

  abbrev pub is_unknown_long : Unknown → Bool
  is_unknown_long u = list_any is_lin_long u.under || is_atom_long u.atom

  abbrev pub is_term_wide : Term → Form → Bool
  is_term_wide t g = is_unknown_long t.0 || are_summands_wide (term_at t) g

  abbrev pub are_terms_wide : List Term → Form → Bool
  are_terms_wide [] g = false
  are_terms_wide (t ∷ ts) g = is_term_wide t g || are_terms_wide ts (with_summands (term_at t) g)

  abbrev pub is_form_wide : Form → Bool
  is_form_wide f =
      are_terms_wide f.terms (record { terms = []; constant = f.constant }) || is_sum_wide nothing (pos 1) (raw_at f)

  abbrev pub fact_at : Rel → Fact
  fact_at r = record { rel = record { form = form_at r.form; equal = r.equal }; wide = is_form_wide r.form }
