use Rattle.std.proofs.Common.{◌∙◌, sym, ap, length, pos}
use Rattle.std.proofs.lemmas.List.Sums.{length-filter}
use Rattle.acc_base.specs.Tables.{is_under}
use Rattle.acc_store.specs.Rows.{live}
use Rattle.acc_store.proofs.Spans.{none_under}
use Rattle.acc_store.proofs.sums.count_under.Goals as goal

pub returns-else-prefix-le-MOST_KEY_PARTS : goal.returns-else-prefix-le-MOST_KEY_PARTS
returns-else-prefix-le-MOST_KEY_PARTS c =
    let es = c.args.entries.now.entries in
    let none = none_under c.args.table c.args.prefix.now es c.if-prefix-le-MOST_KEY_PARTS.false c.requires.fit in
    ap pos (sym (sym (length-filter (is_under c.args.table c.args.prefix.now) (live es)) ∙ ap length none))
