use Rattle.std.proofs.Common.{sym, ◌∙◌}
use Rattle.std.specs.Prelude.{◌≡◌, Bool, true, false, not, take, ◌||◌}
use Rattle.acc_lex.specs.declared.words.Sign.TheVariants as sign
use Rattle.acc_parse_designs.specs.OwnWords.{EndsInTypes}
use Rattle.acc_parse_designs.proofs.OwnWords.{ends_in, not_begun, ended_before, stray_at, own_on, has_on, either_on}
use Rattle.acc_parse_designs.proofs.own_words.words_before_stray_self.Goals as goal
use Rattle.acc_parse_designs.proofs.own_words.words_before_stray_self.Goals.{then-types_began, else-types_began}
use Rattle.acc_parse_designs.proofs.own_words.words_before_stray_self.Goals.{else-is_sign-via-then-is_sign+else-not-in_types}
use Rattle.acc_parse_designs.proofs.own_words.words_before_stray_self.Goals.{else-is_sign-via-else-is_sign}

is_true : (b : Bool) → not b ≡ false → b ≡ true
is_true true h = cc
is_true false h = absurd cc

is_false : (b : Bool) → not b ≡ true → b ≡ false
is_false true h = absurd cc
is_false false h = cc

-- a `self` where no `type` came, or behind them
pub returns-then-not-in_types-clause-stray : goal.returns-then-not-in_types-clause-stray
returns-then-not-in_types-clause-stray c =
    let outside : ¬ EndsInTypes (take c.loop-i.i c.args.words.now) = elim c.if-types_began.branch [
      | then-types_began w ↦ ended_before (take c.loop-i.i c.args.words.now)
          (sym c.loop-i.invariant.ended ∙ is_true c.loop-i.types_ended (sym w.in_types-is ∙ c.if-not-in_types.true))
      | else-types_began w ↦ not_begun (take c.loop-i.i c.args.words.now) (sym c.loop-i.invariant.began ∙ w.if-types_began.false)
    ] in
    λ lt. stray_at c.args.words.now c.loop-i.i c.index-words-i.result lt c.index-words-i.is (sym c.is_sign.ensures ∙ c.if-is_sign.true)
    outside

pub loop-i-preserved : goal.loop-i-preserved
loop-i-preserved c =
    let ends_there = λ (inside : c.if-types_began.in_types ≡ true). elim c.if-types_began.branch
    as (λ b. EndsInTypes (take c.loop-i.i c.args.words.now)) [
      | then-types_began w ↦ ends_in (take c.loop-i.i c.args.words.now) (sym c.loop-i.invariant.began ∙ w.if-types_began.true)
          (sym c.loop-i.invariant.ended ∙ is_false c.loop-i.types_ended (sym w.in_types-is ∙ inside))
      | else-types_began w ↦ absurd (let wrong = sym w.in_types-is ∙ inside in cc)
    ] in record {
      own = own_on c.args.words.now c.loop-i.i c.index-words-i.result c.loop-i-test.true c.index-words-i.is c.loop-i.invariant.own
          (λ own. elim c.else-is_sign.branch [
            | else-is_sign-via-then-is_sign+else-not-in_types w ↦ ends_there w.if-not-in_types.false
            | else-is_sign-via-else-is_sign w ↦ absurd (let wrong = sym own ∙ sym c.is_sign.ensures ∙ w.if-is_sign.false in cc)
          ]);
      began = (λ i. c.loop-i.invariant.began i || c.is_sign-types_began.ensures i) ∙ sym
          (has_on c.args.words.now c.loop-i.i c.index-words-i.result c.loop-i-test.true c.index-words-i.is sign.Type);
      ended = (λ i. c.loop-i.invariant.ended i || (c.is_sign-in-loop-i.ensures i || c.is_sign-in-loop-i-2.ensures i)) ∙ sym
          (either_on c.args.words.now c.loop-i.i c.index-words-i.result c.loop-i-test.true c.index-words-i.is);
    }
