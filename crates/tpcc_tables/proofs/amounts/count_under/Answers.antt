use Rattle.std.proofs.Common.{pos, length, ap, ◌∙◌, List}
use Rattle.std.proofs.lemmas.List.Sums.{length-filter}
use Rattle.acc_base.specs.declared.tables.Row.{Row}
use Rattle.acc_base.specs.Tables.{is_under}
use Rattle.tpcc_tables.proofs.amounts.count_under.Goals as goal

pub returns : goal.returns
returns c =
    ap (λ (rs : List Row). pos (length rs)) c.rows_under.ensures
    ∙ ap pos (length-filter (is_under c.args.table c.args.prefix.now) c.args.rows.now)
