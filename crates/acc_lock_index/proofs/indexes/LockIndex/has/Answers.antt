use Rattle.std.proofs.Common.{subst}
use Rattle.std.specs.Prelude.{◌↔◌, IsTrue, MatchOption}
use Rattle.acc_lock_index.specs.Indexed.{Indexed, HasNumber, IsPlaceOf}
use Rattle.acc_lock_index.proofs.Keepers.{has_by}
use Rattle.acc_lock_index.proofs.indexes.LockIndex.has.Goals as goal

pub returns : goal.returns
returns c =
    let t = c.args.t in
    let place = c.place_of.result in
    let told = subst (λ ss. MatchOption place (¬ HasNumber ss t) (IsPlaceOf ss t)) c.as_slice.ensures.value c.place_of.ensures in
    subst {A = Indexed} (λ v. IsTrue c.is_some.result ↔ HasNumber v.standings t) c.self.view_is
    (has_by c.self.inside.standings.items t place c.is_some.result c.is_some.ensures told)
