use Rattle.std.proofs.Common.{◌∙◌, length, ap, sym}
use Rattle.acc_base.specs.Machine.{World}
use Rattle.acc_settling.proofs.Sealings.{sealed_leaves, sealing_leaves}
use Rattle.acc_settling.proofs.sealing.seal.Goals as goal

pub returns-in-Ok-clause-done : goal.returns-in-Ok-clause-done
returns-in-Ok-clause-done g c =
    let new = c.seal_and_settle.new.self in
    let s = c.seal_and_settle.ensures in
    sealed_leaves g.D.Disk.clock g.D.Disk.left_since g.D.Disk.told g.D.Disk.may_leave g.D.Disk.faults c.args.engine.now new s.survives
    s.sound.kept c.in-Ok.ensures.ok.settled c.in-Ok.ensures.ok.unfailed

pub returns-in-Err-clause-stops : goal.returns-in-Err-clause-stops
returns-in-Err-clause-stops g c =
    let old = c.args.engine.now in
    let new = c.seal_and_settle.new.self in
    let s = c.seal_and_settle.ensures in
    let all = c.in-Err.ensures.err ∙ c.requires.all ∙ ap (λ (w : World). length w.events) (sym s.kept.0) in
    rw c.stop_of.ensures
    (sealing_leaves g.D.Disk.clock g.D.Disk.left_since g.D.Disk.told g.D.Disk.may_leave g.D.Disk.faults old new s.survives s.sound.kept all
    c.in-Err.error c.requires.unfailed c.in-Err.ensures.why)
