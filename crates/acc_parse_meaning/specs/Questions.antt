-- The read that asks a question of rows or of a column.
-- Only the code here speaks of this; Steps says what each read stands for.
use Rattle.std.specs.Prelude.{ℕ, List}
use Rattle.acc_base.specs.declared.forms.Lin.{Lin}
use Rattle.acc_base.specs.declared.steps.Read.{Read}
use Rattle.acc_base.specs.declared.steps.Read.TheVariants as read
use Rattle.acc_parse_meaning.specs.declared.steps.RowQuestion.{RowQuestion}
use Rattle.acc_parse_meaning.specs.declared.steps.RowQuestion.TheVariants as of_rows
use Rattle.acc_parse_meaning.specs.declared.steps.ColumnQuestion.{ColumnQuestion}
use Rattle.acc_parse_meaning.specs.declared.steps.ColumnQuestion.TheVariants as of_column

-- by the variable, the table and the key
abbrev pub row_read : RowQuestion → ℕ → ℕ → List Lin → Read
row_read of_rows.Has x table key = read.Has x table key
row_read of_rows.Count x table key = read.Count x table key
row_read of_rows.Least x table key = read.Least x table key
row_read of_rows.Greatest x table key = read.Greatest x table key

-- by the variable, the table, the key and the column
abbrev pub column_read : ColumnQuestion → ℕ → ℕ → List Lin → ℕ → Read
column_read of_column.Value x table key column = read.Col x table key column
column_read of_column.Sum x table key column = read.Sum x table key column
