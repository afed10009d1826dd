use Rattle.std.proofs.Common.{sym, ap}
use Rattle.std.specs.Prelude.{is_some}
use Rattle.acc_base.proofs.Places.{place_total}
use Rattle.acc_store.specs.Runs.{seen}
use Rattle.acc_store.proofs.Laid.{found_nowhere, removed_nowhere}
use Rattle.acc_store.proofs.runs.remove_at.Goals as goal

pub returns-in_default-clause-there : goal.returns-in_default-clause-there
returns-in_default-clause-there c =
    sym (ap is_some (found_nowhere place_total c.args.place.now (seen c.args.runs.now.entries) c.requires.laid c.in_default.ensures))

pub returns-in_default-clause-entries : goal.returns-in_default-clause-entries
returns-in_default-clause-entries c = sym (removed_nowhere place_total c.args.place.now (seen c.args.runs.now.entries) c.requires.laid
    c.in_default.ensures)
