use Rattle.std.proofs.Common.{refl}
use Rattle.acc_base.proofs.Places.{place_total}
use Rattle.acc_store.specs.Runs.{seen}
use Rattle.acc_store.proofs.Laid.{found_nowhere}
use Rattle.acc_store.proofs.runs.land.Goals as goal

pub returns-in-None-clause-ok : goal.returns-in-None-clause-ok
returns-in-None-clause-ok c =
    (refl, found_nowhere place_total c.args.place (seen c.args.runs.now.entries) c.requires.laid c.in-None.ensures, refl)
