use Rattle.std.proofs.Common.{◌≡◌, ℕ, ◌+◌, ◌-◌, List, ◌++◌, length, Result, Ok, Err, refl, ap, subst, ◌∙◌, arith, append_assoc}
use Rattle.std.proofs.Common.{length-append}
use Rattle.acc_grammar.specs.declared.faults.Fault.{Fault}
use Rattle.acc_grammar.specs.declared.faults.Fault.TheVariants.{Memory, Syntax}
use Rattle.acc_grammar.specs.Answers.{Adds}
use Rattle.acc_lex.specs.declared.parts.Part.{Part}
use Rattle.acc_lex.specs.Spellings.{Token, token_bytes}
use Rattle.acc_lex.specs.LineTokens.{part, gap, shape_of, item_parts}
use Rattle.acc_lex.specs.Readings.{spaces_at, token_at, item_at}
use Rattle.acc_lex.proofs.TokenReaders.{token_exact}
use Rattle.acc_lex.proofs.readers.Lexer.item.Goals as goal

-- a token takes its bytes
taken : (bs rest : List ℕ) (t : Token) → token_at bs ≡ Ok (t, rest) → length bs ≡ length (token_bytes t) + length rest
taken bs rest t read = omega (arith, ap length (token_exact.takes bs t rest read).0, length-append (token_bytes t) rest)

-- a token's part, and behind it the gap of its spaces
item_added : (bs mid rest : List ℕ) (t : Token) (held more after : List Part) (result : Result (Unit {0}) Fault) →
    token_at bs ≡ Ok (t, mid) → more ≡ held ++ part (shape_of t) (length (token_bytes t)) →
    Adds gap result more after rest (spaces_at mid) → Adds item_parts result held after rest (item_at bs)
unfolding item_at
item_added bs mid rest t held more after (Ok u) read is a = (
  record { token = t; spaces = a.0 },
  rw (read, a.1) refl,
  a.2 ∙ ap (λ (z : List Part). z ++ gap a.0) is ∙ append_assoc held (part (shape_of t) (length (token_bytes t))) (gap a.0),
)
item_added bs mid rest t held more after (Err Syntax) read is a = rw (read, a) refl
item_added bs mid rest t held more after (Err Memory) read is a = tt

pub overflow_sub-len : goal.overflow_sub-len
overflow_sub-len c = let k = c.in_ok-shape.ensures.given in omega (arith, taken c.args.self.now.rest.now c.token.new.self.rest.now k.0 k.1)

pub returns : goal.returns
returns c =
    let k = c.in_ok-shape.ensures.given in
    let mid = c.token.new.self.rest.now in
    let long = taken c.args.self.now.rest.now mid k.0 k.1 in
    let len : length c.args.self.now.rest.now - length mid ≡ length (token_bytes k.0) = omega (arith, long) in
    let more : c.add.new.self.parts ≡ c.args.self.now.parts ++ part (shape_of k.0) (length (token_bytes k.0)) =
    c.in_ok-add.ensures.added ∙ (λ i. c.in_ok-shape.ensures.parts i ++ part (k.2 i) (len i)) in
    item_added c.args.self.now.rest.now mid c.blanks.new.self.rest.now k.0 c.args.self.now.parts c.add.new.self.parts
    c.blanks.new.self.parts c.blanks.result k.1 more
    (subst (λ (z : List ℕ). Adds gap c.blanks.result c.add.new.self.parts c.blanks.new.self.parts c.blanks.new.self.rest.now
    (spaces_at z)) c.in_ok-add.ensures.rest c.blanks.ensures)
