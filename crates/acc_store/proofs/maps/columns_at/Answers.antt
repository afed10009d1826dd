use Rattle.std.proofs.Common.{◌∙◌, sym}
use Rattle.acc_store.proofs.Live.{live_columns}
use Rattle.acc_store.proofs.maps.columns_at.Goals as goal

pub returns-clause-value : goal.returns-clause-value
returns-clause-value c =
    c.cells_at.ensures.value ∙ sym (live_columns (c.args.table, c.args.key.now) c.args.entries.now.entries c.requires.up)
