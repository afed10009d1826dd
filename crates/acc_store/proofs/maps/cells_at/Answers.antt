use Rattle.std.proofs.Common.{sym, ap}
use Rattle.acc_store.specs.Rows.{flat}
use Rattle.acc_store.proofs.Spans.{entry_long}
use Rattle.acc_store.proofs.maps.cells_at.Goals as goal

-- no row has so long a key
pub returns-in-None-clause-value : goal.returns-in-None-clause-value
returns-in-None-clause-value c =
    sym (ap flat (entry_long c.args.table c.args.key.now c.args.entries.now.entries c.in-None.ensures.none c.requires.fit))
