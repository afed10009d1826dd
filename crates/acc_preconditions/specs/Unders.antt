-- What has to be 0 so that an action touches what an unknown counts: the differences of an atom's key or prefix and the action's key.
use Rattle.std.specs.Prelude.{◌==◌, Bool, false, not, ◌&&◌, ◌||◌, if◌then◌else◌, List, [], ◌∷◌, ◌++◌, length, pos}
use Rattle.std.specs.List.{list_any}
use Rattle.std.specs.Ordering.{int_eq}
use Rattle.acc_base.specs.declared.forms.Lin.{Lin}
use Rattle.acc_base.specs.FormEquality.{lin_eq}
use Rattle.acc_preconditions.specs.Differences.{lin_minus, is_minus_long}

-- the parts of a key or prefix minus those of a key, place by place
abbrev pub differences : List Lin → List Lin → List Lin
differences [] ks = []
differences (q ∷ qs) [] = []
differences (q ∷ qs) (k ∷ ks) = lin_minus q k ∷ differences qs ks

-- whether one of them has a number of more than 64 bits
abbrev pub are_long : List Lin → List Lin → Bool
are_long [] ks = false
are_long (q ∷ qs) [] = false
are_long (q ∷ qs) (k ∷ ks) = is_minus_long q k || are_long qs ks

-- a linear value without variables
abbrev pub is_constant : Lin → Bool
is_constant l = length l.coeffs == 0

abbrev pub is_zero : Lin → Bool
is_zero l = is_constant l && int_eq l.constant (pos 0)

-- a constant other than 0
abbrev pub is_false : Lin → Bool
is_false l = is_constant l && not (int_eq l.constant (pos 0))

-- one more value that has to be 0: one that is 0, or that stands there already, isn't added
abbrev pub with_under : Lin → List Lin → List Lin
with_under d under = if is_zero d || list_any (λ l. lin_eq l d) under then under else (under ++ d ∷ [])

abbrev pub lengthened : List Lin → List Lin → List Lin
lengthened under [] = under
lengthened under (d ∷ ds) = lengthened (with_under d under) ds
