use Rattle.std.proofs.Common.{◌≤◌, filter, subst, sym, arith, List}
use Rattle.std.specs.Prelude.{unsigned_abs}
use Rattle.std.specs.List.{sum_by}
use Rattle.acc_base.specs.declared.bounds.TheConstants.{LARGEST_SUM}
use Rattle.acc_base.specs.declared.tables.Row.{Row}
use Rattle.acc_base.specs.Tables.{is_under, cell}
use Rattle.acc_store.proofs.Unders.{under_sum}
use Rattle.tpcc_tables.proofs.amounts.sum_under.Goals as goal

pub sum-requires : goal.sum-requires
sum-requires c =
    let t = c.args.table in
    let p = c.args.prefix.now in
    let rows = c.args.rows.now in
    let size = λ (r : Row). unsigned_abs (cell c.args.col r) in
    let all = c.requires.fits t c.args.col in
    let some = under_sum t p size rows in
    let few : sum_by size (filter (is_under t p) rows) ≤ LARGEST_SUM = omega (arith, all, some) in
    record { fits = subst (λ (rs : List Row). sum_by size rs ≤ LARGEST_SUM) (sym c.rows_under.ensures) few }
