use Rattle.std.proofs.Common.{◌≡◌, rules, ◌∙◌, sym, ap, length, subst, FitsSigned, w64, List}
use Rattle.std.specs.Int.{int_min, int_max}
use Rattle.std.proofs.lemmas.Int.{to_z-of_z}
use Rattle.acc_base.specs.declared.tables.Row.{Row}
use Rattle.acc_base.specs.Tables.{best, parts_at}
use Rattle.acc_store.specs.Rows.{IsRising}
use Rattle.tpcc_tables.proofs.Rising.{rises}
use Rattle.tpcc_tables.proofs.amounts.greatest_under.Goals as goal

pub greatest_part-requires : goal.greatest_part-requires
greatest_part-requires c =
    subst (λ (rs : List Row). IsRising (parts_at (length c.args.prefix.now) rs)) (sym c.rows_under.ensures)
    (rises c.args.table c.args.prefix.now c.args.rows.now c.requires)
