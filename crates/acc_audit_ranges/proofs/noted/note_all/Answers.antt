use Rattle.std.proofs.Common.{◌≤◌, length, arith}
use Rattle.acc_audit_ranges.proofs.Giving.{noted_step, noted_all, none_came, only_step, only_past}
use Rattle.acc_audit_ranges.proofs.noted.note_all.Goals as goal

pub loop-write-init : goal.loop-write-init
loop-write-init c = record { grows = λ p h. h; noted = tt; only = none_came c.args.noted.now.places; counted = λ are. are }

pub loop-write-preserved : goal.loop-write-preserved
loop-write-preserved c = record {
  grows = λ p h. c.in_ok-note.ensures.grows p (c.loop-write.invariant.grows p h);
  noted = noted_step c.loop-write.noted.places c.note.new.noted.places c.args.writes.now c.loop-write.write-index c.write-item.result
      c.loop-write-test.true c.write-item.is c.in_ok-note.ensures.grows c.loop-write.invariant.noted c.in_ok-note.ensures.noted;
  only = only_step c.args.noted.now.places c.loop-write.noted.places c.note.new.noted.places c.args.writes.now c.loop-write.write-index
      c.write-item.result c.loop-write-test.true c.write-item.is c.loop-write.invariant.only c.in_ok-note.ensures.only;
  counted = λ are. c.in_ok-note.ensures.counted (c.loop-write.invariant.counted are);
}

pub returns-in_err-note-clause-grows : goal.returns-in_err-note-clause-grows
returns-in_err-note-clause-grows c = λ p h. c.in_err-note.ensures.grows p (c.loop-write.invariant.grows p h)

pub returns-in_err-note-clause-only : goal.returns-in_err-note-clause-only
returns-in_err-note-clause-only c =
    only_past c.args.noted.now.places c.note.new.noted.places c.args.writes.now _
    (only_step c.args.noted.now.places c.loop-write.noted.places c.note.new.noted.places c.args.writes.now c.loop-write.write-index
    c.write-item.result c.loop-write-test.true c.write-item.is c.loop-write.invariant.only c.in_err-note.ensures.only)

pub returns-clause-noted : goal.returns-clause-noted
returns-clause-noted c =
    let past : length c.args.writes.now ≤ c.loop-write.write-index = omega arith in
    noted_all c.loop-write.noted.places c.args.writes.now c.loop-write.write-index past c.loop-write.invariant.noted

pub returns-clause-only : goal.returns-clause-only
returns-clause-only c = only_past c.args.noted.now.places c.loop-write.noted.places c.args.writes.now _ c.loop-write.invariant.only
