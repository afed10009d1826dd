-- The items so far are written.
use Rattle.std.proofs.Common.{◌≡◌, map, take}
use Rattle.serde_json.specs.View.{view}
use Rattle.acc_cert.proofs.spelled.SeqSpelled.value.Given as goal

abbrev pub invariant-loop-item : goal.invariant-loop-item
invariant-loop-item g l = map view l.items.items ≡ map g.A.Spelled.spelled (take l.item-index l.item-items)
