use Rattle.std.proofs.Common.{◌≡◌, ℕ, ◌+◌, ◌<◌, ◌≤◌, List, ◌++◌, length, get_or, drop, sym, ap, ◌∙◌, arith, append_assoc}
use Rattle.std.proofs.lemmas.List.{append-nil, at_drop_more, at_drop_all}
use Rattle.acc_lex.specs.declared.parts.Part.{Part}
use Rattle.acc_lex.specs.declared.parts.Shape.{Shape}
use Rattle.acc_lex.specs.declared.parts.Shape.TheVariants as shape
use Rattle.acc_lex.specs.declared.tokens.Token.{Token}
use Rattle.acc_lex.specs.LineTokens.{parts_len, kind_of, feeds_of, token_of, tokens_from}
use Rattle.acc_lex.proofs.parts.tokens_of.Goals as goal

abbrev part_at : List Part → ℕ → Part
part_at ps i = get_or ps i (record { shape = shape.Gap; len = 0 })

len_step : (ps : List Part) (i : ℕ) → i < length ps → parts_len (drop i ps) ≡ (part_at ps i).len + parts_len (drop (i + 1) ps)
len_step ps i h = at_drop_more parts_len ps i (record { shape = shape.Gap; len = 0 }) h

few_feeds : (s : Shape) → feeds_of s ≤ 1
few_feeds shape.Feed = omega arith
few_feeds _ = omega arith

pub loop-part-init : goal.loop-part-init
loop-part-init c = record {
  place = omega arith;
  feeds = omega arith;
  tokens =
      λ i. c.new-tokens.ensures i ++ tokens_from 1 0 c.args.parts.now;
}

pub overflow_add-to : goal.overflow_add-to
overflow_add-to c = omega (
  arith,
  len_step c.args.parts.now c.loop-part.part-index c.loop-part-test.true,
  c.loop-part.invariant.place,
  c.requires,
)

pub loop-part-preserved : goal.loop-part-preserved
loop-part-preserved c =
    let ps = c.args.parts.now in
    let i = c.loop-part.part-index in
    let p = part_at ps i in
    let to = c.loop-part.from + p.len in
    let few = few_feeds p.shape in
    let behind = tokens_from (c.loop-part.line + feeds_of p.shape) to (drop (i + 1) ps) in record {
      place = omega (arith, len_step ps i c.loop-part-test.true, c.loop-part.invariant.place);
      feeds = omega (arith, few, c.feeds_of-line.ensures, c.loop-part.invariant.feeds);
      tokens =
          (λ j. c.in_ok-add_token.ensures j ++ tokens_from (c.loop-part.line + c.feeds_of-line.ensures j) to (drop (i + 1) ps)) ∙
          (λ j. (c.loop-part.tokens ++ token_of (c.kind_of.ensures j) c.loop-part.line c.loop-part.from to) ++ behind) ∙ append_assoc
          c.loop-part.tokens (token_of (kind_of p.shape) c.loop-part.line c.loop-part.from to) behind ∙ ap
          (λ (z : List Token). c.loop-part.tokens ++ z)
          (sym (at_drop_more (tokens_from c.loop-part.line c.loop-part.from) ps i (record { shape = shape.Gap; len = 0 })
          c.loop-part-test.true)) ∙ c.loop-part.invariant.tokens;
    }

pub returns : goal.returns
returns c = sym (append-nil c.loop-part.tokens) ∙ sym
    (at_drop_all (λ (z : List Part). c.loop-part.tokens ++ tokens_from c.loop-part.line c.loop-part.from z) c.args.parts.now
    c.loop-part.part-index c.loop-part-test.false) ∙ c.loop-part.invariant.tokens
