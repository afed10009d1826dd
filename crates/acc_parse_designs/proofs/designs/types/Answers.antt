use Rattle.std.proofs.Common.{refl, sym, ◌∙◌}
use Rattle.std.proofs.lemmas.Result.{err_from_is_err_and}
use Rattle.acc_grammar.specs.Readers.{many}
use Rattle.acc_grammar.proofs.Many.{goes_on, is_done}
use Rattle.acc_grammar.proofs.LoopFaults.{ends_so}
use Rattle.acc_lex.specs.declared.words.Sign.TheVariants as sign
use Rattle.acc_parse_syntax.specs.WordReaders.{comes}
use Rattle.acc_parse_designs.specs.DesignReaders.{type_at}
use Rattle.acc_parse_designs.proofs.TypeLaws.{type_shrinks}
use Rattle.acc_parse_designs.proofs.designs.types.Goals as goal

pub returns-in_err-tree : goal.returns-in_err-tree
returns-in_err-tree c =
    let p = err_from_is_err_and c.from_residual.result c.from_residual.ensures.1 in
    rw (p.1, p.2) (ends_so (comes sign.Type) type_at refl c.in_err-tree.field-0.0 c.loop-parser.types c.loop-parser.parser.words.now
    c.type_tree.new.parser.words.now (many (comes sign.Type) type_at c.args.parser.now.words.now)
    (sym c.comes.ensures ∙ c.loop-parser-test.true) c.in_err-tree.ensures c.loop-parser.invariant)

pub loop-parser-smaller : goal.loop-parser-smaller
loop-parser-smaller c = type_shrinks c.loop-parser.parser.words.now c.in_ok-tree.tree c.type_tree.new.parser.words.now c.in_ok-tree.ensures

pub loop-parser-preserved : goal.loop-parser-preserved
loop-parser-preserved c =
    rw c.in_ok-push.ensures.ok (goes_on (comes sign.Type) type_at type_shrinks refl c.loop-parser.types c.loop-parser.parser.words.now
    c.in_ok-tree.tree c.type_tree.new.parser.words.now (many (comes sign.Type) type_at c.args.parser.now.words.now)
    (sym c.comes.ensures ∙ c.loop-parser-test.true) c.in_ok-tree.ensures c.loop-parser.invariant)

pub returns : goal.returns
returns c = is_done (comes sign.Type) type_at c.loop-parser.types c.loop-parser.parser.words.now
    (many (comes sign.Type) type_at c.args.parser.now.words.now) (sym c.comes.ensures ∙ c.loop-parser-test.false) c.loop-parser.invariant
