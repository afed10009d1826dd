use Rattle.std.proofs.Common.{◌∙◌, sym, ap}
use Rattle.acc_base.specs.Linear.{lin_values}
use Rattle.acc_base.specs.Tables.{column_of}
use Rattle.acc_step.specs.Variables.{values_of}
use Rattle.acc_step.specs.InRange.{value_read}
use Rattle.acc_step.specs.ReadValues.{read_of}
use Rattle.acc_step.proofs.reads.read_one.Goals as goal

pub returns-in-Col : goal.returns-in-Col
returns-in-Col g c =
    let env = values_of c.args.variables.now in
    let db = g.S.Store.rows c.args.s.now in
    c.read_column.ensures ∙ ap (λ k. value_read (lin_values env k) (column_of db c.in-Col.table (lin_values env k) c.in-Col.col))
    c.as_slice.ensures ∙ sym (ap (read_of db c.args.tape.now c.args.at env) c.in-Col.is)
