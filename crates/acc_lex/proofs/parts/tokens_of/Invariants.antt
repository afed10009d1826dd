use Rattle.std.proofs.Common.{◌≡◌, ◌+◌, ◌≤◌, ◌++◌, drop}
use Rattle.acc_lex.specs.LineTokens.{parts_len, tokens_from}
use Rattle.acc_lex.proofs.parts.tokens_of.Given as goal

abbrev pub invariant-loop-part : goal.invariant-loop-part
invariant-loop-part l = record {
  place : l.from + parts_len (drop l.part-index l.parts) ≡ parts_len l.parts;
  feeds : l.line ≤ l.part-index + 1;
  tokens : l.tokens ++ tokens_from l.line l.from (drop l.part-index l.parts) ≡ tokens_from 1 0 l.parts;
}
