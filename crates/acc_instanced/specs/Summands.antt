-- Summands of a form: atoms with coefficients, under linear values that have to be 0.
use Rattle.std.specs.Prelude.{Bool, false, ◌&&◌, ◌||◌, if◌then◌else◌, List, [], ◌∷◌, ◌++◌, map, ℤ, ◌+ℤ◌, ◌*ℤ◌}
use Rattle.acc_base.specs.declared.forms.Lin.{Lin}
use Rattle.acc_base.specs.declared.forms.Atom.{Atom}
use Rattle.acc_base.specs.declared.forms.Atom.TheVariants.{One, Var}
use Rattle.acc_base.specs.declared.forms.Unknown.{Unknown}
use Rattle.acc_base.specs.declared.forms.Form.{Form}
use Rattle.acc_base.specs.Bounded.{is_wide}
use Rattle.acc_base.specs.UnknownEquality.{is_bare_one}
use Rattle.acc_base.specs.Sums.{Term}

-- an atom with a coefficient
abbrev pub Part : Type 0
Part = Atom × ℤ

abbrev pub variable_parts : Lin → List Part
variable_parts v = map (λ x. (Var x.0, x.1)) v.coeffs

-- a linear value: its variables in order, and then its constant
abbrev pub lin_parts : Lin → List Part
lin_parts v = variable_parts v ++ (One, v.constant) ∷ []

abbrev pub unknown : List Lin → Atom → Unknown
unknown under atom = record { under = under; atom = atom }

-- m times a part under these linear values
abbrev pub part_summand : List Lin → ℤ → Part → Term
part_summand under m p = (unknown under p.0, m *ℤ p.1)

-- one more summand: a number is added to the constant, and any other one comes last among the terms
abbrev pub with_summand : Term → Form → Form
with_summand s g =
    if is_bare_one s.0 then record g { constant = g.constant +ℤ s.1 } else record g { terms = g.terms ++ s ∷ [] }

abbrev pub with_summands : List Term → Form → Form
with_summands [] g = g
with_summands (s ∷ ss) g = with_summands ss (with_summand s g)

-- ---- the numbers that this computes

-- the constant, where a summand is added to it
abbrev pub is_constant_wide : Term → Form → Bool
is_constant_wide s g = is_bare_one s.0 && is_wide (g.constant +ℤ s.1)

-- a summand's product, and the constant
abbrev pub is_summand_wide : Term → Form → Bool
is_summand_wide s g = is_wide s.1 || is_constant_wide s g

abbrev pub are_summands_wide : List Term → Form → Bool
are_summands_wide [] g = false
are_summands_wide (s ∷ ss) g = is_summand_wide s g || are_summands_wide ss (with_summand s g)
