use Rattle.acc_accept.proofs.Soundness.{accepted_is_sound}
use Rattle.acc_accept.proofs.Judging.{only_memory}
use Rattle.acc_accept.proofs.acceptance.accept.Goals as goal

pub new-requires-clause-sound : goal.new-requires-clause-sound
new-requires-clause-sound c = accepted_is_sound c.args.d c.args.certificate.now c.in-Ok.ensures

pub returns-in-Err-clause-only : goal.returns-in-Err-clause-only
returns-in-Err-clause-only c = only_memory c.args.d c.args.certificate.now c.in-Err.refusal c.in-Err.ensures
