use Rattle.std.proofs.Common.{subst}
use Rattle.tpcc_tables.specs.Schema.{IsFirstLacking, Refuses}
use Rattle.tpcc_tables.specs.declared.tables.TheConstants.{SCHEMA}
use Rattle.acc_commands_inputs.proofs.schemas.find_schema.Goals as goal

pub returns-in_ok-schema_refusal-in-Err-Lacks : goal.returns-in_ok-schema_refusal-in-Err-Lacks
returns-in_ok-schema_refusal-in-Err-Lacks c =
    let tables = c.args.d.now.tables in
    let number = c.in-Err-Lacks.number in
    let first : IsFirstLacking tables SCHEMA number =
    subst (Refuses tables SCHEMA) c.in-Err-Lacks.field-0-is c.in-Err-Lacks.ensures.lacks in
    record { nth = number; first = first; says = c.in_ok-schema_refusal-in-Err-Lacks.ensures }
