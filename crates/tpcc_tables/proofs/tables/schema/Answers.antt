use Rattle.std.proofs.Common.{subst, List}
use Rattle.acc_base.specs.declared.tables.Table.{Table}
use Rattle.tpcc_tables.specs.declared.tables.TheConstants.{SCHEMA}
use Rattle.tpcc_tables.specs.Schema.{Refuses}
use Rattle.tpcc_tables.proofs.tables.schema.Goals as goal

pub returns-in-Err-clause-lacks : goal.returns-in-Err-clause-lacks
returns-in-Err-clause-lacks c =
    subst (λ (ts : List Table). Refuses ts SCHEMA c.in-Err.error) c.as_slice.ensures c.in-Err.ensures.lacks
