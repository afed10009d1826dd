use Rattle.std.proofs.Common.{◌∙◌, ap}
use Rattle.std.specs.Ordering.{int_eq}
use Rattle.std.specs.Cmp.Lexicographic.{pointwise}
use Rattle.acc_index_store.specs.Indexes.{place_written}
use Rattle.acc_index_store.proofs.Naming.{parts_alike}
use Rattle.acc_index_store.proofs.prefixes.names.Goals as goal

pub returns-then-table-named : goal.returns-then-table-named
returns-then-table-named c =
    let named = c.place_of-named.ensures in
    parts_alike (c.args.table, c.args.key.now) (place_written c.args.write.now) c.eq.result (c.if-table-named.true ∙ named.table)
    (c.eq.ensures ∙ ap (pointwise int_eq c.args.key.now) named.key)
