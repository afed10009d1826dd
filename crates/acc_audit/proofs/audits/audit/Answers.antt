use Rattle.acc_formed.proofs.Runs.{well_formed_runs}
use Rattle.acc_audit.proofs.Sounds.{kind_to_sound}
use Rattle.acc_audit.proofs.Telling.{tells_meaning}
use Rattle.acc_audit.proofs.audits.audit.Goals as goal

pub returns-clause-meaning : goal.returns-clause-meaning
returns-clause-meaning g c = tells_meaning c.args.d.now c.args.events.now c.walk.result c.walk.ensures

pub returns-clause-sound : goal.returns-clause-sound
returns-clause-sound g c =
    kind_to_sound c.args.d.now c.requires.formed c.args.events.now c.walk.result
    (tells_meaning c.args.d.now c.args.events.now c.walk.result c.walk.ensures)

pub new-machine-requires-clause-runnable : goal.new-machine-requires-clause-runnable
new-machine-requires-clause-runnable g c = well_formed_runs c.args.d.now c.requires.formed
