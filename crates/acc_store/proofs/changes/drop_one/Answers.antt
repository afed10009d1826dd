use Rattle.acc_store.proofs.Live.{live_absent}
use Rattle.acc_store.proofs.Spans.{entry_long}
use Rattle.acc_store.proofs.changes.drop_one.Goals as goal

-- no row has so long a key
pub returns-in_default-clause-rows : goal.returns-in_default-clause-rows
returns-in_default-clause-rows c =
    let es = c.args.entries.now.entries in
    live_absent (c.args.table, c.args.key.now) es c.requires.up
    (entry_long c.args.table c.args.key.now es c.in_default.ensures.none c.requires.are_fit)
