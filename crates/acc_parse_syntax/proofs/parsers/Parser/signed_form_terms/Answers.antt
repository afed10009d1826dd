use Rattle.std.proofs.Common.{refl, sym, ◌∙◌}
use Rattle.std.proofs.lemmas.Result.{err_from_is_err_and}
use Rattle.acc_grammar.specs.Readers.{many}
use Rattle.acc_grammar.proofs.Many.{goes_on, is_done}
use Rattle.acc_grammar.proofs.LoopFaults.{ends_so}
use Rattle.acc_parse_syntax.specs.ValueReaders.{starts_signed_term}
use Rattle.acc_parse_syntax.specs.FormReaders.{signed_form_term_at}
use Rattle.acc_parse_syntax.proofs.FormLaws.{signed_form_term_shrinks}
use Rattle.acc_parse_syntax.proofs.parsers.Parser.signed_form_terms.Goals as goal

pub returns-in_err-term : goal.returns-in_err-term
returns-in_err-term c =
    let p = err_from_is_err_and c.from_residual.result c.from_residual.ensures.1 in
    rw (p.1, p.2) (ends_so starts_signed_term signed_form_term_at refl c.in_err-term.field-0.0 c.loop-self.terms c.loop-self.self.words.now
    c.signed_form_term.new.self.words.now (many starts_signed_term signed_form_term_at c.args.self.now.words.now)
    (sym c.starts_signed_term.ensures ∙ c.loop-self-test.true) c.in_err-term.ensures c.loop-self.invariant)

pub loop-self-smaller : goal.loop-self-smaller
loop-self-smaller c = signed_form_term_shrinks c.loop-self.self.words.now c.in_ok-term.term c.signed_form_term.new.self.words.now
    c.in_ok-term.ensures

pub loop-self-preserved : goal.loop-self-preserved
loop-self-preserved c =
    rw c.in_ok-push.ensures.ok (goes_on starts_signed_term signed_form_term_at signed_form_term_shrinks refl c.loop-self.terms
    c.loop-self.self.words.now c.in_ok-term.term c.signed_form_term.new.self.words.now
    (many starts_signed_term signed_form_term_at c.args.self.now.words.now) (sym c.starts_signed_term.ensures ∙ c.loop-self-test.true)
    c.in_ok-term.ensures c.loop-self.invariant)

pub returns : goal.returns
returns c = is_done starts_signed_term signed_form_term_at c.loop-self.terms c.loop-self.self.words.now
    (many starts_signed_term signed_form_term_at c.args.self.now.words.now) (sym c.starts_signed_term.ensures ∙ c.loop-self-test.false)
    c.loop-self.invariant
