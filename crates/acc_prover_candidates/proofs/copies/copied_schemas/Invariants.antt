use Rattle.std.proofs.Common.{◌≡◌, take}
use Rattle.acc_prover_candidates.proofs.copies.copied_schemas.Given as goal

abbrev pub invariant-loop-schema : goal.invariant-loop-schema
invariant-loop-schema l =
    l.again.items ≡ take l.schema-index l.schemas
