-- What an answer tells of a number that is too large.
use Rattle.std.specs.Prelude.{Bool, IsTrue, IsFalse, Result, Ok, Err}
use Rattle.acc_base.specs.declared.sums.FormSum.{FormSum}
use Rattle.acc_base.specs.declared.sums.FormSum.TheVariants as form_sum
use Rattle.acc_wp.specs.declared.errors.WpError.{WpError}
use Rattle.acc_wp.specs.declared.errors.WpError.TheVariants.{Wide, Memory}

-- Ok where there is none, Wide where there is one, and want of memory says nothing
abbrev pub TellsWide : {T : Type 0} → Result T WpError → Bool → Type 0
TellsWide (Ok x) wide = IsFalse wide
TellsWide (Err Wide) wide = IsTrue wide
TellsWide (Err Memory) wide = Unit {0}

-- why a sum of forms isn't given, as a cause
abbrev pub cause_of : FormSum → WpError
cause_of form_sum.Wide = Wide
cause_of form_sum.Memory = Memory
