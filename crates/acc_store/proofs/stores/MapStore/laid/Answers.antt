use Rattle.std.proofs.Common.{sym, subst, refl, arith}
use Rattle.acc_store.specs.Rows.{live, IsUp, AreFit, HasNoBlank, SumsFit}
use Rattle.acc_store.proofs.Changed.{up_none}
use Rattle.acc_store.proofs.stores.MapStore.laid.Goals as goal

pub invariant_of-result : goal.invariant_of-result
invariant_of-result c =
    subst (λ es. IsUp es × AreFit es × HasNoBlank es × SumsFit (live es)) (sym c.new.ensures)
    (up_none, tt, (λ p. refl), (λ t col. omega arith))
