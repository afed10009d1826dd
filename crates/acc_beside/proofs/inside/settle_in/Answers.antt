use Rattle.std.proofs.Common.{subst}
use Rattle.acc_io.specs.Causes.{Rose}
use Rattle.acc_engine.specs.Calls.{RefusesSettling}
use Rattle.acc_engine.specs.declared.errors.EngineError.{EngineError}
use Rattle.acc_engine.proofs.Surviving.{Kept}
use Rattle.acc_beside.proofs.Settling.{well, badly, was_well}
use Rattle.acc_beside.proofs.inside.settle_in.Goals as goal

pub returns-in-Ok-clause-serves : goal.returns-in-Ok-clause-serves
returns-in-Ok-clause-serves g c =
    let old = c.args.engine.now in
    let new = c.settle.new.self in
    let e = c.settle.ensures in
    let k : Kept old new = record { kept = e.kept; calls = e.calls } in
    let ok = c.in-Ok.ensures.ok in
    (well g.D.Disk.clock g.D.Disk.left_since g.D.Disk.told g.D.Disk.may_leave g.D.Disk.faults g.met.D.Disk.only_now
    g.met.D.Disk.counts_now g.B.Run.script g.B.Room.start g.B.Run.engine old new k c.requires.serves (λ f. (e.failed f).1) e.moments_sealed
    c.settled-settled.ensures.within e.faults c.args.joined c.in-Ok.count c.requires.tied
    (was_well c.settle.result old.failed c.in-Ok.count c.in-Ok.is e.failed) ok.2 ok.1 c.in-Ok.ensures.states.1
    c.in-Ok.ensures.ready ok.0).serves'

pub returns-in-Disk-clause-serves : goal.returns-in-Disk-clause-serves
returns-in-Disk-clause-serves g c =
    let old = c.args.engine.now in
    let new = c.settle.new.self in
    let e = c.settle.ensures in
    let k : Kept old new = record { kept = e.kept; calls = e.calls } in
    let fault = Rose (g.D.Disk.faults old.disk) (g.D.Disk.faults new.disk) in
    (badly g.D.Disk.clock g.D.Disk.left_since g.D.Disk.told g.D.Disk.may_leave g.D.Disk.faults g.met.D.Disk.only_now
    g.met.D.Disk.counts_now g.B.Run.script g.B.Room.start g.B.Run.engine old new k c.requires.serves (λ f. (e.failed f).1) e.moments_sealed
    c.settled-settled.ensures.within e.faults c.args.joined c.mark.result c.requires.tied
    (subst (λ (x : EngineError). RefusesSettling x old.failed new.failed fault) c.in-Disk.is c.in-Err.ensures.why) c.in-Err.ensures.err.0
    c.mark.ensures).serves'
