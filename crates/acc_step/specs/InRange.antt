-- Numbers that count only where they are in range: within 2^45 of 0.
use Rattle.std.specs.Prelude.{List, ◌∷◌, Option, Some, None, if◌then◌else◌, ℤ}
use Rattle.std.specs.List.{list_all}
use Rattle.acc_base.specs.Numbers.{is_small}

-- a value in range
abbrev pub if_small : ℤ → Option ℤ
if_small v = if is_small v then Some v else None

-- values that are all in range
abbrev pub if_all_small : List ℤ → Option (List ℤ)
if_all_small vs = if list_all is_small vs then Some vs else None

-- a value, where it and the parts of a key are in range
abbrev pub value_read : List ℤ → ℤ → Option ℤ
value_read key v = if list_all is_small (v ∷ key) then Some v else None
