use Rattle.std.proofs.Common.{◌≡◌, ◌++◌, drop}
use Rattle.acc_lex.specs.Slices.{words_from, words_of}
use Rattle.acc_lex.proofs.texts.words_of.Given as goal

abbrev pub invariant-loop-token : goal.invariant-loop-token
invariant-loop-token l = l.words ++ words_from l.empty l.text (drop l.token-index l.tokens) ≡ words_of l.text l.tokens
