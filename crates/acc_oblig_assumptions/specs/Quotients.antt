-- What makes a variable a quotient, one by one.
use Rattle.std.specs.Prelude.{ℕ, [], ◌∷◌, ℤ, pos, negsuc, neg_ℤ, ◌+ℤ◌}
use Rattle.acc_base.specs.declared.forms.Rel.{Rel}
use Rattle.acc_base.specs.Forms.{at_most, form}
use Rattle.acc_oblig.specs.Relations.{variable}

-- c times the variable is at most y
abbrev pub quotient_low : ℕ → ℕ → ℤ → Rel
quotient_low x y c = at_most (form (variable c x ∷ variable (negsuc 0) y ∷ []) (pos 0))

-- y is at most that and c - 1
abbrev pub quotient_high : ℕ → ℕ → ℤ → Rel
quotient_high x y c = at_most (form (variable (pos 1) y ∷ variable (neg_ℤ c) x ∷ []) (pos 1 +ℤ neg_ℤ c))
