-- A design in which TPC-C's tables are looked for.
use Rattle.std.specs.Prelude.{ℕ, ◌++◌, codes}
use Rattle.std.specs.Fmt.{decimal}
use Rattle.acc_base.specs.Lines.{line}
use Rattle.acc_base.specs.declared.designs.Design.{Design}
use Rattle.acc_journalled.specs.declared.answers.Ending.TheVariants.{DesignRefused}
use Rattle.tpcc_tables.specs.Schema.{IsSchemaOf, IsFirstLacking}
use Rattle.tpcc_tables.specs.declared.tables.TheConstants.{SCHEMA}
use Rattle.acc_commands_inputs.specs.declared.schemas.FoundSchema.{FoundSchema}
use Rattle.acc_commands_inputs.specs.declared.schemas.FoundSchema.TheVariants.{Found, Refused}
use Rattle.acc_commands_inputs.specs.Answers.{said_alone}
use Rattle.acc_commands_inputs.specs.Text.{Said, Says}

-- the n-th table of TPC-C, counted from 1, isn't in the design with its name, width and columns, and those before it are
pub record RefusesSchema (d : Design) (said : Said) : Type 0 where
  pub nth : ℕ
  pub first : IsFirstLacking d.tables SCHEMA nth
  pub says : Says DesignRefused (line (codes "refused schema " ++ decimal nth)) said

abbrev pub FindsSchema : Design → FoundSchema → Type 0
FindsSchema d (Found s) = IsSchemaOf s d
FindsSchema d (Refused a) = RefusesSchema d (said_alone a)
