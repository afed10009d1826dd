use Rattle.std.proofs.Common.{sym}
use Rattle.std.specs.Int.{w128}
use Rattle.acc_cert_bounds.specs.InBounds.{is_near}
use Rattle.acc_cert_read.proofs.Numerals.{no_number, wide_holds}
use Rattle.acc_cert_read.proofs.numbers.wide.Goals as goal

pub returns-in_default : goal.returns-in_default
returns-in_default c = sym (no_number w128 is_near wide_holds c.args.text.now c.in_default.ensures.value.0)
