-- The law: idle rows of the shipped design meet the consistency conditions 1 to 9.
use Rattle.std.specs.Prelude.{List}
use Rattle.std.specs.List.{AllByRecursion}
use Rattle.acc_base.specs.declared.designs.Design.{Design}
use Rattle.acc_base.specs.declared.tables.Row.{Row}
use Rattle.acc_base.specs.Annotated.{IsIdle}
use Rattle.acc_base.specs.Fits.{RowsFit}
use Rattle.tpcc_tables.specs.declared.kinds.TheConstants.{CONDITIONS}
use Rattle.tpcc_tables.specs.declared.tables.TableSet.{TableSet}
use Rattle.tpcc_tables.specs.Conditions.{IsTrueOf}
use Rattle.tpcc_tables.specs.Schema.{IsSchemaOf}
use Rattle.tpcc_steps.specs.ShippedText.{shipped_design}

-- idle rows of a design that fit it, as those of every state do where no transaction is unfinished, meet each condition
abbrev pub KeepsConditions : Design → Type 0
KeepsConditions d = (s : TableSet) (db : List Row) → IsSchemaOf s d → RowsFit d db → IsIdle d db → AllByRecursion (IsTrueOf s db) CONDITIONS

-- those of the shipped design do
abbrev pub ShippedKeepsConditions : Type 0
ShippedKeepsConditions = KeepsConditions shipped_design
