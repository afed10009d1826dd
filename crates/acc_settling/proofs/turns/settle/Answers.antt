use Rattle.acc_engine.proofs.Surviving.{Kept, survives_settled}
use Rattle.acc_settling.specs.Chains.{but_one}
use Rattle.acc_settling.specs.Runs.{IsAcked}
use Rattle.acc_settling.proofs.Acks.{all_acked}
use Rattle.acc_settling.proofs.Settlings.{settling_leaves, one_settling}
use Rattle.acc_settling.proofs.turns.settle.Goals as goal

pub returns-in-Ok-clause-done : goal.returns-in-Ok-clause-done
returns-in-Ok-clause-done g c =
    let old = c.args.engine.now in
    let new = c.settle.new.self in
    let s = c.settle.ensures in
    let kept : Kept old new = record { kept = s.kept; calls = s.calls } in
    let ok = c.in-Ok.ensures.ok in
    let acked : IsAcked new = all_acked new s.sound.kept ok.1 in (
      record {
        survives =
            survives_settled g.D.Disk.clock g.D.Disk.left_since g.D.Disk.told g.D.Disk.may_leave g.D.Disk.faults g.met.D.Disk.only_now
            old new kept c.requires.unfailed c.requires.sound.within (λ ready. s.moments_sealed ready) s.faults ok.1 ok.2
            c.in-Ok.ensures.states.1 (λ ready. c.in-Ok.ensures.ready ready);
        ends = λ _. but_one new acked;
      },
      record { unfailed = ok.2; ready = λ ready. c.in-Ok.ensures.ready ready; acked = λ _. acked },
    )

pub returns-in-Ok-clause-all : goal.returns-in-Ok-clause-all
returns-in-Ok-clause-all g c =
    let ok = c.in-Ok.ensures.ok in
    (ok.1, all_acked c.settle.new.self c.settle.ensures.sound.kept ok.1)

pub returns-in-Ok-clause-one : goal.returns-in-Ok-clause-one
returns-in-Ok-clause-one g c = λ _.
    but_one c.settle.new.self (all_acked c.settle.new.self c.settle.ensures.sound.kept c.in-Ok.ensures.ok.1)

pub returns-in-Err-clause-stops : goal.returns-in-Err-clause-stops
returns-in-Err-clause-stops g c =
    let old = c.args.engine.now in
    let new = c.settle.new.self in
    let s = c.settle.ensures in
    let kept : Kept old new = record { kept = s.kept; calls = s.calls } in
    rw c.stop_of.ensures
    (settling_leaves g.D.Disk.clock g.D.Disk.left_since g.D.Disk.told g.D.Disk.may_leave g.D.Disk.faults g.met.D.Disk.only_now
    g.met.D.Disk.counts_now old new kept c.requires.unfailed s.faults (λ ready. s.moments_sealed ready) c.in-Err.ensures.err.0
    c.requires.sound.within c.in-Err.error c.in-Err.ensures.why)

pub returns-in-Err-clause-one : goal.returns-in-Err-clause-one
returns-in-Err-clause-one g c =
    let old = c.args.engine.now in
    let new = c.settle.new.self in
    let s = c.settle.ensures in
    let kept : Kept old new = record { kept = s.kept; calls = s.calls } in
    one_settling old new kept c.in-Err.ensures.err.0 c.requires.sound.within
