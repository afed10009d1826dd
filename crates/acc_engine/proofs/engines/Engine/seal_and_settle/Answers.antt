use Rattle.std.proofs.Common.{◌≡◌, false, ◌∙◌}
use Rattle.acc_engine.proofs.Sealings.{ends_sealed, unfailed_ok, sealed_survives, sealing_fails}
use Rattle.acc_engine.proofs.Surviving.{Kept}
use Rattle.acc_engine.proofs.engines.Engine.seal_and_settle.Goals as goal

pub returns-in_err-settle-clause-survives : goal.returns-in_err-settle-clause-survives
returns-in_err-settle-clause-survives g c =
    let old = c.args.self.now in
    let mid = c.seal.new.self in
    let new = c.settle.new.self in
    let kept : Kept mid new = record { kept = c.settle.ensures.kept; calls = c.settle.ensures.calls } in
    let unfailed : mid.failed ≡ false = c.seal.ensures.stays.failed
    ∙ unfailed_ok old.failed c.seal.result c.in_ok-seal.field-0 c.in_ok-seal.was (λ failed. (c.seal.ensures.failed failed).0) in
    sealing_fails g.D.Disk.clock g.D.Disk.left_since g.D.Disk.told g.D.Disk.may_leave g.D.Disk.faults g.met.D.Disk.only_now old mid new
    c.seal.ensures.stays c.seal.ensures.kept.0 kept unfailed c.seal.ensures.sound.within c.settle.ensures.moments_sealed
    c.settle.ensures.faults g.met.D.Disk.counts_now c.in_err-settle.field-0.0 c.in_err-settle.ensures.why c.in_err-settle.ensures.err.0

pub returns-clause-ok : goal.returns-clause-ok
returns-clause-ok g c =
    let ok = c.in_ok-settle.ensures.ok in
    let states = c.in_ok-settle.ensures.states in
    ends_sealed c.in_ok-seal.field-0 c.args.self.now c.seal.new.self c.settle.new.self c.in_ok-seal.ensures.ok c.seal.ensures.stays
    c.seal.ensures.kept.0 c.settle.ensures.kept.0 c.settle.ensures.kept.3 ok.1 ok.2 states.0 states.1

pub returns-clause-survives : goal.returns-clause-survives
returns-clause-survives g c =
    let old = c.args.self.now in
    let mid = c.seal.new.self in
    let new = c.settle.new.self in
    let kept : Kept mid new = record { kept = c.settle.ensures.kept; calls = c.settle.ensures.calls } in
    let unfailed : mid.failed ≡ false = c.seal.ensures.stays.failed
    ∙ unfailed_ok old.failed c.seal.result c.in_ok-seal.field-0 c.in_ok-seal.was (λ failed. (c.seal.ensures.failed failed).0) in
    let ok = c.in_ok-settle.ensures.ok in
    sealed_survives g.D.Disk.clock g.D.Disk.left_since g.D.Disk.told g.D.Disk.may_leave g.D.Disk.faults g.met.D.Disk.only_now old mid new
    c.seal.ensures.stays c.seal.ensures.kept.0 kept unfailed c.seal.ensures.sound.within c.settle.ensures.moments_sealed
    c.settle.ensures.faults ok.1 ok.2 c.in_ok-settle.ensures.states.1 (λ ready. c.in_ok-settle.ensures.ready ready)
