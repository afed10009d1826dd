use Rattle.std.proofs.Common.{◌∙◌, sym, subst}
use Rattle.acc_index_store.specs.Indexes.{AreTotals}
use Rattle.acc_index_store.proofs.Batch.{counted_same, counted_next, can_count}
use Rattle.acc_index_store.proofs.indexes.count_next.Goals as goal

pub count_row-requires-clause-fits : goal.count_row-requires-clause-fits
count_row-requires-clause-fits c =
    can_count c.args.writes.now c.args.i c.index-writes-i.result c.requires.within c.index-writes-i.is
    (sym c.is_named.ensures ∙ c.if-not-is_named.true) c.args.kept c.args.rows.now c.requires.order c.args.way c.args.totals.now.entries
    c.requires.totals c.requires.sums

pub returns-then-not-is_named-clause-totals : goal.returns-then-not-is_named-clause-totals
returns-then-not-is_named-clause-totals c =
    counted_next c.args.writes.now c.args.i c.index-writes-i.result c.requires.within c.index-writes-i.is
    (sym c.is_named.ensures ∙ c.if-not-is_named.true) c.args.kept c.args.rows.now c.requires.order c.args.way c.args.totals.now.entries
    c.count_row.new.totals.entries c.requires.totals c.count_row.ensures.counted

pub returns-else-not-is_named-clause-totals : goal.returns-else-not-is_named-clause-totals
returns-else-not-is_named-clause-totals c =
    subst (λ rows. AreTotals c.args.kept rows c.args.totals.now.entries)
    (sym (counted_same c.args.writes.now c.args.i c.index-writes-i.result c.requires.within c.index-writes-i.is
    (sym c.is_named.ensures ∙ c.if-not-is_named.false) c.args.way c.args.rows.now))
    c.requires.totals
