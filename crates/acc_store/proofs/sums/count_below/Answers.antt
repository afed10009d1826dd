use Rattle.std.proofs.Common.{◌∙◌, ap, length, pos}
use Rattle.std.proofs.lemmas.List.Sums.{length-filter}
use Rattle.acc_base.specs.Tables.{is_under}
use Rattle.acc_store.specs.Rows.{live}
use Rattle.acc_store.proofs.Spans.{live_below}
use Rattle.acc_store.proofs.sums.count_below.Goals as goal

pub returns : goal.returns
returns c =
    let es = c.args.entries.now.entries in
    ap pos (c.count_live.ensures ∙ ap (λ x. length (live x)) c.entries_below.ensures.below ∙ ap length
    (live_below c.args.table c.args.prefix.now es) ∙ length-filter (is_under c.args.table c.args.prefix.now) (live es))
