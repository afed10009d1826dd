use Rattle.std.proofs.Common.{◌+◌, List, ◌++◌, get_or, drop, sym, ap, ◌∙◌, append_assoc}
use Rattle.std.proofs.lemmas.List.{append-nil, at_drop_more, at_drop_all}
use Rattle.acc_lex.specs.declared.tokens.Kind.TheVariants as kind
use Rattle.acc_lex.specs.declared.tokens.Token.{Token}
use Rattle.acc_lex.specs.declared.words.Word.{Word}
use Rattle.acc_lex.specs.Slices.{slice, ends, told, words_from}
use Rattle.acc_lex.proofs.texts.words_of.Goals as goal

abbrev no_token : Token
no_token = record { line = 0; from = 0; to = 0; kind = kind.Word }

pub loop-token-preserved : goal.loop-token-preserved
loop-token-preserved c =
    let text = c.args.text.now in
    let ts = c.args.tokens.now in
    let i = c.loop-token.token-index in
    let t = get_or ts i no_token in
    let more = told c.loop-token.empty t.kind (slice text t) in
    let behind = words_from (ends t.kind) text (drop (i + 1) ts) in
    (λ j. c.in_ok-add_word.ensures j ++ words_from (c.ends-empty.ensures j) text (drop (i + 1) ts)) ∙ append_assoc c.loop-token.words more
    behind ∙ ap (λ (z : List Word). c.loop-token.words ++ z)
    (sym (at_drop_more (words_from c.loop-token.empty text) ts i no_token c.loop-token-test.true)) ∙ c.loop-token.invariant

pub returns : goal.returns
returns c = sym (append-nil c.loop-token.words) ∙ sym
    (at_drop_all (λ (z : List Token). c.loop-token.words ++ words_from c.loop-token.empty c.args.text.now z) c.args.tokens.now
    c.loop-token.token-index c.loop-token-test.false) ∙ c.loop-token.invariant
