-- What is written so far, and then the fractions that are left, is all of it.
use Rattle.acc_page.specs.Written.{Owes}
use Rattle.std.proofs.Common.{drop}
use Rattle.std.specs.List.{flat_map}
use Rattle.acc_cert_prove.specs.Lines.{fraction_text}
use Rattle.acc_cert_prove.proofs.lines.push_fractions.Given as goal

abbrev pub invariant-loop-fraction : goal.invariant-loop-fraction
invariant-loop-fraction l = Owes l.fn.out l.out (flat_map fraction_text (drop l.fraction-index l.point)) (flat_map fraction_text l.point)
