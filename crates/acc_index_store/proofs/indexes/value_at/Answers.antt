use Rattle.std.proofs.Common.{rules, ◌∙◌, sym, ap, Some, FitsSigned}
use Rattle.std.specs.Int.{w128}
use Rattle.std.proofs.lemmas.Int.{to_z-of_z}
use Rattle.std.specs.Prelude.{find, option_copied}
use Rattle.acc_base.specs.Tables.{is_at}
use Rattle.acc_index_store.proofs.Naming.{value_there, value_absent}
use Rattle.acc_index_store.proofs.indexes.value_at.Goals as goal

pub returns-in-Some : goal.returns-in-Some
returns-in-Some c =
    let fits : FitsSigned w128 c.value_in.result = search rules in
    ap Some (to_z-of_z w128 c.value_in.result fits ∙ c.value_in.ensures) ∙
    value_there (find (is_at c.args.table c.args.key.now) c.args.rows.now) c.args.col c.in-Some.columns.now (sym c.columns.ensures.value ∙ ap option_copied c.in-Some.is)

pub returns-in-None : goal.returns-in-None
returns-in-None c =
    value_absent (find (is_at c.args.table c.args.key.now) c.args.rows.now) c.args.col
    (sym c.columns.ensures.value ∙ ap option_copied c.in-None.is)
