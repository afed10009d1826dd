-- Rows as text.
use Rattle.std.specs.Prelude.{ℕ, ◌++◌, List, [], Option, Some, None, slice_get, codes}
use Rattle.std.specs.List.{flat_map}
use Rattle.acc_base.specs.declared.designs.Design.{Design}
use Rattle.acc_base.specs.declared.tables.Row.{Row}
use Rattle.acc_base.specs.declared.tables.Table.{Table}
use Rattle.acc_base.specs.Lines.{line, spaced}

abbrev pub table_name : Option Table → List ℕ
table_name None = []
table_name (Some table) = table.name

-- the table's name, the key's parts, a colon, and the columns
abbrev pub row_line : Design → Row → List ℕ
row_line d row =
    line (table_name (slice_get d.tables row.table) ++ flat_map spaced row.key.parts ++ codes " :" ++ flat_map spaced row.cols)

-- a line each row
abbrev pub dump_text : Design → List Row → List ℕ
dump_text d rows = flat_map (row_line d) rows
