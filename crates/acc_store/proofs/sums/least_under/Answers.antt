use Rattle.std.proofs.Common.{sym, ap, length}
use Rattle.std.specs.Int.{int_min}
use Rattle.acc_base.specs.Tables.{best, parts_at}
use Rattle.acc_store.proofs.Spans.{none_under}
use Rattle.acc_store.proofs.sums.least_under.Goals as goal

pub returns-else-prefix-le-MOST_KEY_PARTS : goal.returns-else-prefix-le-MOST_KEY_PARTS
returns-else-prefix-le-MOST_KEY_PARTS c =
    let es = c.args.entries.now.entries in
    let none = none_under c.args.table c.args.prefix.now es c.if-prefix-le-MOST_KEY_PARTS.false c.requires.fit in
    sym (ap (λ rows. best int_min (parts_at (length c.args.prefix.now) rows)) none)
