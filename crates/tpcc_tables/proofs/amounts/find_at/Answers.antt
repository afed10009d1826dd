use Rattle.std.proofs.Common.{ap, ◌∙◌}
use Rattle.std.specs.Prelude.{find}
use Rattle.tpcc_tables.proofs.KeyFacts.{find_at, is_as_long}
use Rattle.tpcc_tables.proofs.amounts.find_at.Goals as goal

pub returns : goal.returns
returns c =
    c.find_of_length.ensures
    ∙ (ap (find (is_as_long c.args.key.now)) c.rows_under.ensures ∙ find_at c.args.table c.args.key.now c.args.rows.now)
