use Rattle.std.proofs.Common.{◌≡◌, rules, ◌∙◌, ap, is_some, option_copied}
use Rattle.acc_base.specs.Tables.{is_at}
use Rattle.tpcc_tables.proofs.KeyFacts.{is_some_find}
use Rattle.tpcc_tables.proofs.amounts.has.Goals as goal

pub returns : goal.returns
returns c =
    let same : is_some c.find_at.result ≡ is_some (option_copied c.find_at.result) = search rules in
    c.is_some.ensures ∙ same ∙ ap is_some c.find_at.ensures ∙ is_some_find (is_at c.args.table c.args.key.now) c.args.rows.now
