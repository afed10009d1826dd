-- The rows of a good state have a text: they are few, and narrow.
use Rattle.std.proofs.Common.{◌≡◌, length, Option, Some, None, slice_get, refl, arith}
use Rattle.std.proofs.lemmas.List.Elements.{All-weaker}
use Rattle.acc_base.specs.declared.tables.Row.{Row}
use Rattle.acc_base.specs.declared.tables.Table.{Table}
use Rattle.acc_base.specs.declared.designs.Design.{Design}
use Rattle.acc_base.specs.Machine.{World}
use Rattle.acc_base.specs.Shapes.{IsFullKey, AreColumns, RowFits}
use Rattle.acc_ckpt.specs.Texts.{IsNarrow, IsCounted}
use Rattle.acc_formed.specs.WellFormed.{IsTableFormed, IsWellFormed}
use Rattle.acc_formed.proofs.Runs.{table_is_small}
use Rattle.acc_lift.proofs.FormRules.{numbered_at}
use Rattle.acc_machine.specs.Kept.{IsKept}

narrow : (d : Design) → IsWellFormed d → (r : Row) → RowFits d.tables r → IsNarrow r
narrow d formed r fits = by (slice_get d.tables r.table) refl fits.0 fits.1
  where
    by : (o : Option Table) → slice_get d.tables r.table ≡ o → IsFullKey o (length r.key.parts) → AreColumns o (length r.cols) → IsNarrow r
    by None is key cols = absurd key
    by (Some t) is key cols =
        let small = table_is_small t (numbered_at (IsTableFormed d.tables) d.tables r.table t formed.tables is).limits in
        record { parts = omega (arith, small.width, key); cols = omega (arith, small.columns, cols) }

pub are_counted : (d : Design) (w : World) → IsKept d w → IsCounted w.rows
are_counted d w kept = record {
  each = All-weaker (RowFits d.tables) IsNarrow (narrow d kept.accepted.formed) w.rows kept.good.steady.rows.shapes;
  few = omega (arith, kept.good.steady.few, kept.good.steady.ends);
}
