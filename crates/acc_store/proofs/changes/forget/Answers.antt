use Rattle.acc_store.proofs.Spans.{entry_long}
use Rattle.acc_store.proofs.Blanks.{absent_clears}
use Rattle.acc_store.proofs.changes.forget.Goals as goal

-- there is no entry at so long a key
pub returns-in_default-clause-blanks : goal.returns-in_default-clause-blanks
returns-in_default-clause-blanks c =
    let es = c.args.entries.now.entries in
    absent_clears es (c.args.table, c.args.key.now) (entry_long c.args.table c.args.key.now es c.in_default.ensures.none c.requires.are_fit)
