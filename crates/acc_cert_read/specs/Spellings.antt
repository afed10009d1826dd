-- How numbers stand in certificates.
use Rattle.std.specs.Prelude.{ℕ, ◌^◌, Bool, ◌&&◌, nat_lt, if◌then◌else◌, List, Option, Some, None, option_and_then, ℤ}
use Rattle.std.specs.Fmt.{signed_decimal}
use Rattle.std.specs.Str.{bytes_eq}
use Rattle.std.specs.Str.Parse.{signed_digits_value}
use Rattle.serde_json.specs.Data.{Data}
use Rattle.serde_json.specs.Find.{as_number, as_u64, as_str}
use Rattle.acc_cert_bounds.specs.InBounds.{is_near, is_narrow}

-- the number that a text spells in the one way in which it is written: decimal digits without leading zeros, with a minus
-- where it is below 0
abbrev pub number_within : (ℤ → Bool) → List ℕ → Option ℤ
number_within fits s =
    let z = signed_digits_value 10 s in if fits z && bytes_eq (signed_decimal z) s then Some z else None

abbrev pub near_number : Data → Option ℤ
near_number d = option_and_then (number_within is_near) (as_str d)

abbrev pub narrow_number : Data → Option ℤ
narrow_number d = option_and_then (number_within is_narrow) (as_str d)

-- below 2^32
abbrev pub index_in : ℕ → Option ℕ
index_in n = if nat_lt n (2 ^ 32) then Some n else None

-- a whole number from 0 on, spelled in digits alone: JSON's numbers with a sign, a fraction or an exponent are others
abbrev pub index : Data → Option ℕ
index d = option_and_then index_in (option_and_then as_u64 (as_number d))
