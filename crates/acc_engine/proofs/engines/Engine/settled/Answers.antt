use Rattle.std.proofs.Common.{◌≡◌, List, ℕ, length, false, Some, inl, subst}
use Rattle.acc_base.specs.declared.machines.Event.{Event}
use Rattle.acc_wal.specs.Fronts.{CountsFront}
use Rattle.acc_wal.proofs.FrontLemmas.{front_of_either}
use Rattle.acc_engine.specs.Keeping.{Journalled}
use Rattle.acc_engine.proofs.engines.Engine.settled.Goals as goal

pub returns-clause-counts : goal.returns-clause-counts
returns-clause-counts g c =
    let wal = c.self.inside.wal in
    let P : Journalled g.row.D.Denot → Type 0 = λ j. j.failed ≡ false → (file : List ℕ) → g.D.Disk.told j.disk ≡ Some file →
    CountsFront j.base j.state.events j.settled file in
    subst P c.self.view_is (λ unfailed file told. subst (λ (h : List Event). CountsFront wal.base h (length wal.durable) file)
    c.self.invariant.0.same (front_of_either wal.base file wal.durable wal.tail (inl (c.durable.ensures.counts unfailed file told))))
