use Rattle.std.proofs.Common.{◌≡◌, false}
use Rattle.std.specs.List.{flat_map, range_with_len}
use Rattle.acc_journalled.specs.Conditions.{false_key, condition_line}
use Rattle.acc_journalled.proofs.Verdicts.{AreTried}
use Rattle.acc_journalled.proofs.conditions.judge_rows.Given as goal

abbrev pub invariant-loop-at : goal.invariant-loop-at
invariant-loop-at l = record {
  lines : l.text.cut ≡ false
      → l.text.text ≡ flat_map (λ n. condition_line n (false_key l.s l.rows.rows n)) (range_with_len 1 l.at);
  tried : AreTried l.s l.rows.rows l.at l.all_true;
}
