use Rattle.std.proofs.Common.{sym}
use Rattle.std.specs.Int.{w64}
use Rattle.acc_cert_bounds.specs.InBounds.{is_narrow}
use Rattle.acc_cert_read.proofs.Numerals.{no_number, narrow_holds}
use Rattle.acc_cert_read.proofs.numbers.narrow.Goals as goal

pub returns-in_default : goal.returns-in_default
returns-in_default c = sym (no_number w64 is_narrow narrow_holds c.args.text.now c.in_default.ensures.value.0)
