use Rattle.std.proofs.Common.{◌≡◌, ◌==◌, take, false}
use Rattle.std.specs.List.{list_any}
use Rattle.acc_wal.specs.declared.items.Seal.{Seal}
use Rattle.acc_engine.proofs.sealing.is_sealed_at.Given as goal

abbrev pub invariant-loop-seal : goal.invariant-loop-seal
invariant-loop-seal l = list_any (λ (seal : Seal). seal.place == l.place) (take l.seal-index l.seals) ≡ false
