use Rattle.std.proofs.Common.{◌≡◌, take}
use Rattle.std.specs.Prelude.{◌||◌}
use Rattle.acc_lex.specs.declared.words.Sign.TheVariants as sign
use Rattle.acc_parse_designs.specs.OwnWords.{OwnInTypes}
use Rattle.acc_parse_designs.proofs.OwnWords.{has}
use Rattle.acc_parse_designs.proofs.own_words.words_before_stray_self.Given as goal

-- no `self` came outside the types, and which words came
abbrev pub invariant-loop-i : goal.invariant-loop-i
invariant-loop-i l = record {
  own : OwnInTypes (take l.i l.words);
  began : l.types_began ≡ has sign.Type (take l.i l.words);
  ended : l.types_ended ≡ (has sign.Entry (take l.i l.words) || has sign.Hint (take l.i l.words));
}
