-- The value of the digits so far.
use Rattle.std.proofs.Common.{◌≡◌, ◌<◌, ◌^◌, take}
use Rattle.std.specs.Str.Parse.{digits_value}
use Rattle.acc_script.proofs.numbers.value_of.Given as goal

abbrev pub invariant-loop-b : goal.invariant-loop-b
invariant-loop-b l = record { is : l.value ≡ digits_value 10 (take l.b-index l.digits); fits : l.value < 2 ^ 64 }
