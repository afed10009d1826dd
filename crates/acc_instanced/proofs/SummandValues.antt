-- What summands are worth, and a form that they are added to.
use Rattle.std.proofs.Common.{◌≡◌, Bool, true, false, List, [], ◌∷◌, ◌++◌, map, ap, sym, refl, arith, ℤ, pos, ◌+ℤ◌, ◌*ℤ◌, if◌then◌else◌}
use Rattle.std.specs.List.{list_all}
use Rattle.std.proofs.lemmas.Int.{ints}
use lib.IntN.{*ℤ-zero}
use Rattle.acc_base.specs.declared.tables.Row.{Row}
use Rattle.acc_base.specs.declared.forms.Lin.{Lin}
use Rattle.acc_base.specs.declared.forms.Atom.TheVariants.{One}
use Rattle.acc_base.specs.declared.forms.Unknown.{Unknown}
use Rattle.acc_base.specs.declared.forms.Form.{Form}
use Rattle.acc_base.specs.Numbers.{total}
use Rattle.acc_base.specs.Truth.{atom_value, is_lin_zero, unknown_value, product_value, form_value}
use Rattle.acc_base.specs.UnknownEquality.{unknown_decides, is_bare_one}
use Rattle.acc_base.specs.Sums.{Term}
use Rattle.acc_base.proofs.Products.{times_sum, times_times}
use Rattle.acc_instanced.specs.Summands.{Part, unknown, part_summand, with_summand, with_summands}
use Rattle.acc_instanced.proofs.PartValues.{part_value, parts_value, times_one}

-- whether linear values are all 0
abbrev pub all_zero : List ℤ → List Lin → Bool
all_zero env ls = list_all (is_lin_zero env) ls

module _ (db : List Row) (env : List ℤ) where
  abbrev pub worth : List Term → ℤ
  worth ts = total (map (product_value db env) ts)

  pub worth-append : (xs ys : List Term) → worth (xs ++ ys) ≡ worth xs +ℤ worth ys
  worth-append [] ys = omega (arith, ints)
  worth-append (x ∷ xs) ys = let h = worth-append xs ys in omega (arith, ints, h)

  -- m times parts, where what has to be 0 is 0
  pub parts_worth : (under : List Lin) (m : ℤ) (ps : List Part) →
      worth (map (part_summand under m) ps) ≡ (if all_zero env under then m *ℤ parts_value db env ps else pos 0)
  parts_worth under m [] = by (all_zero env under)
    where
      by : (b : Bool) → pos 0 ≡ (if b then m *ℤ pos 0 else pos 0)
      by true = sym (*ℤ-zero m)
      by false = refl
  parts_worth under m (p ∷ ps) = by (all_zero env under) (parts_worth under m ps)
    where
      by : (b : Bool) → worth (map (part_summand under m) ps) ≡ (if b then m *ℤ parts_value db env ps else pos 0) →
          (m *ℤ p.1) *ℤ (if b then atom_value db env p.0 else pos 0) +ℤ worth (map (part_summand under m) ps) ≡
          (if b then m *ℤ parts_value db env (p ∷ ps) else pos 0)
      by true h =
          let one = times_times m p.1 (atom_value db env p.0) in
          let both = times_sum m (part_value db env p) (parts_value db env ps) in
          omega (arith, ints, h, one, both)
      by false h = let none = *ℤ-zero (m *ℤ p.1) in omega (arith, ints, h, none)

  -- a summand is added to the constant or to the terms
  summand_value : (s : Term) (g : Form) → form_value db env (with_summand s g) ≡ form_value db env g +ℤ product_value db env s
  summand_value s g = by (is_bare_one s.0) refl
    where
      by : (b : Bool) → is_bare_one s.0 ≡ b → form_value db env
          (if b then record g { constant = g.constant +ℤ s.1 } else record g { terms = g.terms ++ s ∷ [] }) ≡ form_value db env g +ℤ
          product_value db env s
      by true e =
          let same = ap (λ (u : Unknown). s.1 *ℤ unknown_value db env u) ((unknown_decides s.0 (unknown [] One)).0 e) in
          let one = times_one s.1 in
          omega (arith, ints, same, one)
      by false e = let h = worth-append g.terms (s ∷ []) in omega (arith, ints, h)

  pub summands_value : (ss : List Term) (g : Form) → form_value db env (with_summands ss g) ≡ form_value db env g +ℤ worth ss
  summands_value [] g = omega (arith, ints)
  summands_value (s ∷ ss) g =
      let h = summands_value ss (with_summand s g) in
      let one = summand_value s g in
      omega (arith, ints, h, one)
