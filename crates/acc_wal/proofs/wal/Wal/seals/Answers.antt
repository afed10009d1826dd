use Rattle.std.proofs.Common.{◌≡◌, List, ℕ, take, false, Some, subst}
use Rattle.acc_wal.specs.Journals.{CountsAll}
use Rattle.acc_wal.specs.Wals.{Journal}
use Rattle.acc_wal.proofs.Keeping.{kept_at_rest, counts_all_kept}
use Rattle.acc_wal.proofs.wal.Wal.seals.Goals as goal

pub returns-clause-counts : goal.returns-clause-counts
returns-clause-counts g c =
    let old = c.self.inside in
    let P : Journal g.row.D.Denot → Type 0 = λ j. j.spent ≡ false → (file : List ℕ) → g.D.Disk.told j.disk ≡ Some file →
    CountsAll file j.base j.version j.durable j.seals in
    subst P c.self.view_is (λ unspent file told. counts_all_kept file _ old.version _ (take old.sealed old.seals.items) old.place
    (kept_at_rest old.spent (g.D.Disk.told old.disk) old.base.items old.version (take old.count old.events.items)
    (take old.sealed old.seals.items) old.place file unspent told c.self.invariant.4))
