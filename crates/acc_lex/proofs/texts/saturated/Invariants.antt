use Rattle.std.proofs.Common.{◌≡◌, take}
use Rattle.acc_lex.specs.LineWords.{number_of}
use Rattle.acc_lex.proofs.texts.saturated.Given as goal

abbrev pub invariant-loop-b : goal.invariant-loop-b
invariant-loop-b l = l.value ≡ number_of (take l.b-index l.digits)
