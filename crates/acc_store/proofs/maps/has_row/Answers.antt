use Rattle.std.proofs.Common.{◌≡◌, rules, ◌∙◌, sym, ap, is_some}
use Rattle.std.specs.Prelude.{option_copied}
use Rattle.acc_store.proofs.Live.{live_any}
use Rattle.acc_store.proofs.maps.has_row.Goals as goal

pub returns : goal.returns
returns c =
    let same : is_some c.cells_at.result ≡ is_some (option_copied c.cells_at.result) = search rules in
    c.is_some.ensures ∙ same ∙ ap is_some c.cells_at.ensures.value ∙ sym
    (live_any (c.args.table, c.args.key.now) c.args.entries.now.entries c.requires.up)
