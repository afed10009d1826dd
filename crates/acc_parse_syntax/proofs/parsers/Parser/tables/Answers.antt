use Rattle.std.proofs.Common.{refl, sym, ◌∙◌}
use Rattle.std.proofs.lemmas.Result.{err_from_is_err_and}
use Rattle.acc_grammar.specs.Readers.{many}
use Rattle.acc_grammar.proofs.Many.{goes_on, is_done}
use Rattle.acc_grammar.proofs.LoopFaults.{ends_so}
use Rattle.acc_parse_syntax.specs.TableReaders.{starts_table, table_at}
use Rattle.acc_parse_syntax.proofs.TableLaws.{table_shrinks}
use Rattle.acc_parse_syntax.proofs.parsers.Parser.tables.Goals as goal

pub returns-in_err-table : goal.returns-in_err-table
returns-in_err-table c =
    let p = err_from_is_err_and c.from_residual.result c.from_residual.ensures.1 in
    rw (p.1, p.2) (ends_so starts_table table_at refl c.in_err-table.field-0.0 c.loop-self.tables c.loop-self.self.words.now
    c.table.new.self.words.now (many starts_table table_at c.args.self.now.words.now)
    (sym c.starts_table.ensures ∙ c.loop-self-test.true) c.in_err-table.ensures c.loop-self.invariant)

pub loop-self-smaller : goal.loop-self-smaller
loop-self-smaller c = table_shrinks c.loop-self.self.words.now c.in_ok-table.table c.table.new.self.words.now c.in_ok-table.ensures

pub loop-self-preserved : goal.loop-self-preserved
loop-self-preserved c =
    rw c.in_ok-push.ensures.ok (goes_on starts_table table_at table_shrinks refl c.loop-self.tables c.loop-self.self.words.now
    c.in_ok-table.table c.table.new.self.words.now (many starts_table table_at c.args.self.now.words.now)
    (sym c.starts_table.ensures ∙ c.loop-self-test.true) c.in_ok-table.ensures c.loop-self.invariant)

pub returns : goal.returns
returns c = is_done starts_table table_at c.loop-self.tables c.loop-self.self.words.now
    (many starts_table table_at c.args.self.now.words.now) (sym c.starts_table.ensures ∙ c.loop-self-test.false) c.loop-self.invariant
