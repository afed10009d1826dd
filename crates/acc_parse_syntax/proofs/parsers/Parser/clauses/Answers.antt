use Rattle.std.proofs.Common.{refl, sym, ◌∙◌}
use Rattle.std.proofs.lemmas.Result.{err_from_is_err_and}
use Rattle.acc_grammar.specs.Readers.{many}
use Rattle.acc_grammar.proofs.Many.{goes_on, is_done}
use Rattle.acc_grammar.proofs.LoopFaults.{ends_so}
use Rattle.acc_parse_syntax.specs.WordReaders.{comes}
use Rattle.acc_parse_syntax.specs.ClauseReaders.{clause_statement_at}
use Rattle.acc_parse_syntax.proofs.ClauseLaws.{clause_statement_shrinks}
use Rattle.acc_parse_syntax.proofs.parsers.Parser.clauses.Goals as goal

pub returns-in_err-clause : goal.returns-in_err-clause
returns-in_err-clause c =
    let p = err_from_is_err_and c.from_residual.result c.from_residual.ensures.1 in
    rw (p.1, p.2) (ends_so (comes c.args.sign) (clause_statement_at c.args.sign) refl c.in_err-clause.field-0.0 c.loop-sign.clauses
    c.loop-sign.self.words.now c.clause_statement.new.self.words.now
    (many (comes c.args.sign) (clause_statement_at c.args.sign) c.args.self.now.words.now) (sym c.comes.ensures ∙ c.loop-sign-test.true)
    c.in_err-clause.ensures c.loop-sign.invariant)

pub loop-sign-smaller : goal.loop-sign-smaller
loop-sign-smaller c = clause_statement_shrinks c.args.sign c.loop-sign.self.words.now c.in_ok-clause.clause
    c.clause_statement.new.self.words.now c.in_ok-clause.ensures

pub loop-sign-preserved : goal.loop-sign-preserved
loop-sign-preserved c =
    rw c.in_ok-push.ensures.ok (goes_on (comes c.args.sign) (clause_statement_at c.args.sign) (clause_statement_shrinks c.args.sign) refl
    c.loop-sign.clauses c.loop-sign.self.words.now c.in_ok-clause.clause c.clause_statement.new.self.words.now
    (many (comes c.args.sign) (clause_statement_at c.args.sign) c.args.self.now.words.now) (sym c.comes.ensures ∙ c.loop-sign-test.true)
    c.in_ok-clause.ensures c.loop-sign.invariant)

pub returns : goal.returns
returns c = is_done (comes c.args.sign) (clause_statement_at c.args.sign) c.loop-sign.clauses c.loop-sign.self.words.now
    (many (comes c.args.sign) (clause_statement_at c.args.sign) c.args.self.now.words.now) (sym c.comes.ensures ∙ c.loop-sign-test.false)
    c.loop-sign.invariant
