-- Numbers of an elimination: each product and each sum lies within 2^120 of 0, or stops it.
use Rattle.std.specs.Prelude.{if◌then◌else◌, Ok, Err, ℤ, pos, negsuc, ◌+ℤ◌, ◌*ℤ◌, int_lt}
use Rattle.acc_base.specs.Bounded.{is_wide}
use Rattle.acc_rows.specs.declared.stops.Stop.TheVariants.{Wide}
use Rattle.acc_rows.specs.Answers.{Computation}

abbrev pub kept : ℤ → Computation ℤ
kept n = if is_wide n then Err Wide else Ok n

abbrev pub product : ℤ → ℤ → Computation ℤ
product a b = kept (a *ℤ b)

abbrev pub sum : ℤ → ℤ → Computation ℤ
sum a b = kept (a +ℤ b)

-- less a number, and its distance from 0
abbrev pub opposite : ℤ → Computation ℤ
opposite n = product n (negsuc 0)

abbrev pub size : ℤ → Computation ℤ
size n = if int_lt n (pos 0) then opposite n else Ok n
