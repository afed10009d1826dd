use Rattle.std.proofs.Common.{◌≡◌, map, take}
use Rattle.acc_index_store.specs.Indexes.{place_written}
use Rattle.acc_audit_ranges.proofs.noted.places_named.Given as goal

abbrev pub invariant-loop-write : goal.invariant-loop-write
invariant-loop-write l = l.places.items ≡ map place_written (take l.write-index l.writes)
