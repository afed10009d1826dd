use Rattle.std.proofs.Common.{◌≡◌, drop, length}
use Rattle.acc_audit_complaints.specs.Tuples.{tuples}
use Rattle.acc_audit_complaints.proofs.Searching.{left}
use Rattle.acc_audit_complaints.proofs.searches.+first_bad.Given as goal

abbrev pub invariant-loop-x : goal.invariant-loop-x
invariant-loop-x g l =
    let db = g.S.Store.rows l.s in
    record {
      values : l.values.items ≡ l.fn.values.items;
      rest : left db l.clause l.outside l.fn.values.items (tuples l.others) (drop l.x-index l.x-items)
          ≡ left db l.clause l.outside l.fn.values.items (tuples l.others) l.x-items;
    }

abbrev pub decreases-first_bad : goal.decreases-first_bad
decreases-first_bad g l = length l.ranges.now
