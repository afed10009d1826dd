-- The lowest condition that is false of rows.
use Rattle.std.proofs.Common.{◌≡◌, ℕ, List, None, true, arith}
use Rattle.acc_base.specs.declared.tables.Row.{Row}
use Rattle.tpcc_tables.specs.declared.tables.TableSet.{TableSet}
use Rattle.acc_journalled.proofs.Verdicts.{AreTried, all_true}
use Rattle.acc_bench.specs.Conditions.{IsLowest}

module _ (s : TableSet) (db : List Row) where
  -- all are true
  pub none_false : (n : ℕ) → n ≡ 9 → AreTried s db n true → IsLowest s db None
  none_false n nine so = all_true s db (λ k few. so k (omega (arith, nine, few)))
