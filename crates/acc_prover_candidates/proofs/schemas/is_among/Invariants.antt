use Rattle.std.proofs.Common.{◌≡◌, drop}
use Rattle.std.specs.List.{list_any}
use Rattle.acc_axioms.specs.SchemaEquality.{schema_eq}
use Rattle.acc_prover_candidates.proofs.schemas.is_among.Given as goal

abbrev pub invariant-loop-other : goal.invariant-loop-other
invariant-loop-other l =
    list_any (schema_eq l.schema) (drop l.other-index l.schemas) ≡ list_any (schema_eq l.schema) l.schemas
