use Rattle.std.proofs.Common.{◌≤◌, length, arith}
use Rattle.acc_audit_ranges.proofs.Giving.{stands_step, stands_past}
use Rattle.acc_audit_ranges.proofs.noted.forget_all.Goals as goal

pub loop-place-preserved : goal.loop-place-preserved
loop-place-preserved g c = record {
  covers = λ h. c.in_ok-forget.ensures.covers (c.loop-place.invariant.covers h);
  within = λ p h. c.loop-place.invariant.within p (c.in_ok-forget.ensures.within p h);
  stands = stands_step c.loop-place.noted.places c.forget.new.noted.places (g.S.Store.rows c.args.rows.now) c.args.places.now
      c.loop-place.place-index c.place-item.result c.loop-place-test.true c.place-item.is c.in_ok-forget.ensures.within
      c.loop-place.invariant.stands c.in_ok-forget.ensures.stands;
  counted = λ are. c.in_ok-forget.ensures.counted (c.loop-place.invariant.counted are);
}

pub returns-clause-stands : goal.returns-clause-stands
returns-clause-stands g c =
    let past : length c.args.places.now ≤ c.loop-place.place-index = omega arith in
    stands_past c.loop-place.noted.places (g.S.Store.rows c.args.rows.now) c.args.places.now c.loop-place.place-index past
    c.loop-place.invariant.stands
