use Rattle.std.proofs.Common.{◌≡◌, drop}
use Rattle.acc_lex.specs.Keywords.{sign_in, spellings}
use Rattle.acc_lex.proofs.signs.sign_among.Given as goal

-- the sign is among those that are left
abbrev pub invariant-loop-known : goal.invariant-loop-known
invariant-loop-known l = sign_in (spellings (drop l.known-index l.signs)) l.spelling ≡ sign_in (spellings l.signs) l.spelling
