use Rattle.std.proofs.Common.{◌∙◌, sym}
use Rattle.acc_base.proofs.Places.{place_total}
use Rattle.acc_store.specs.Runs.{seen}
use Rattle.acc_store.proofs.Laid.{found_in_run, found_nowhere}
use Rattle.acc_store.proofs.runs.slot_at.Goals as goal

pub returns-in-Some : goal.returns-in-Some
returns-in-Some c =
    let run = c.in-Some.ensures in
    c.get.ensures.value ∙ sym (found_in_run place_total c.args.place.now (seen c.args.runs.now.entries) run.0 c.in-Some.run'.now.entries
    c.requires.laid run.1)

pub returns-in-None : goal.returns-in-None
returns-in-None c = sym (found_nowhere place_total c.args.place.now (seen c.args.runs.now.entries) c.requires.laid c.in-None.ensures)
