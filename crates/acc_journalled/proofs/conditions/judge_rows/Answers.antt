use Rattle.std.proofs.Common.{◌≡◌, ◌∙◌, ap, subst, arith}
use Rattle.std.specs.List.{flat_map, range_with_len}
use Rattle.acc_journalled.specs.Conditions.{false_key, condition_line, conditions_text}
use Rattle.acc_journalled.proofs.Verdicts.{AreTried, tried_next, line_next, ends_by_rows}
use Rattle.acc_journalled.proofs.conditions.judge_rows.Goals as goal

pub loop-at-preserved : goal.loop-at-preserved
loop-at-preserved c =
    let s = c.args.s.now in
    let db = c.args.rows.now.rows in
    record {
      lines = line_next s db c.loop-at.at c.loop-at.text _ c.in_ok-found.found c.loop-at.invariant.lines c.push_condition.ensures
          c.in_ok-found.ensures;
      tried = tried_next s db c.loop-at.at c.loop-at.all_true _ c.in_ok-found.found c.loop-at.invariant.tried c.in_ok-found.ensures
          c.stays_true-all_true.ensures;
    }

-- as many as there are
pub returns-clause-text : goal.returns-clause-text
unfolding conditions_text
returns-clause-text c whole =
    let nine : c.loop-at.at ≡ 9 = omega (arith, c.loop-at.auto.at-end, c.loop-at-test.false) in
    c.loop-at.invariant.lines whole
    ∙ ap (λ n. flat_map (λ k. condition_line k (false_key c.args.s.now c.args.rows.now.rows k)) (range_with_len 1 n)) nine

pub returns-clause-ending : goal.returns-clause-ending
returns-clause-ending c =
    let nine : c.loop-at.at ≡ 9 = omega (arith, c.loop-at.auto.at-end, c.loop-at-test.false) in
    ends_by_rows c.args.s.now c.args.rows.now.rows c.loop-at.all_true
    (subst (λ n. AreTried c.args.s.now c.args.rows.now.rows n c.loop-at.all_true) nine c.loop-at.invariant.tried)
