use Rattle.acc_base.specs.declared.machines.Frame.{Frame}
use Rattle.acc_base.proofs.Items.{at_slice_get}
use Rattle.acc_table.specs.Entries.{IsPointOf}
use Rattle.acc_machine.proofs.Following.{on_ok_then, agree_put, agree_without}
use Rattle.acc_machine.proofs.kept_index.follow.Goals as goal

pub put-requires-clause-point : goal.put-requires-clause-point
put-requires-clause-point c =
    at_slice_get (λ (h : Frame). IsPointOf c.args.d.now h.ty h.point) c.args.frames.now c.in-Some.ensures.0.0 c.in-Some.f.now
    c.requires.points c.in-Some.ensures.0.1

pub returns-in-Some : goal.returns-in-Some
returns-in-Some c =
    on_ok_then c.put.result c.put.ensures (λ k old stand agree. k old c.args.frames.now stand
    (agree_put c.args.t old c.args.frames.now agree c.requires.apart c.in-Some.f.now c.in-Some.ensures.0 c.in-Some.ensures.1))

pub returns-in-None : goal.returns-in-None
returns-in-None c = λ old stand agree.
    c.take_out.ensures c.args.d.now old c.args.frames.now stand (agree_without c.args.t old c.args.frames.now agree c.in-None.ensures)
