-- The values that are variables alone.
use Rattle.std.specs.Prelude.{◌==◌, ℕ, Bool, false, ◌&&◌, List, [], ◌∷◌, Option, position, ℤ, pos}
use Rattle.std.specs.Ordering.{int_eq}
use Rattle.acc_base.specs.declared.forms.Lin.{Lin}

-- whether a value is a variable alone
abbrev pub is_once : ℕ → List (ℕ × ℤ) → Bool
is_once x [] = false
is_once x (k ∷ []) = (k.0 == x) && int_eq k.1 (pos 1)
is_once x (k ∷ j ∷ rest) = false

abbrev pub is_alone : ℕ → Lin → Bool
is_alone x l = is_once x l.coeffs && int_eq l.constant (pos 0)

-- the first place of a key at which a variable stands alone
abbrev pub place_in : ℕ → List Lin → Option ℕ
place_in x key = position (is_alone x) key
