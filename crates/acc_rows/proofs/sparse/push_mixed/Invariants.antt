use Rattle.std.proofs.Common.{◌≡◌, ◌+◌, ◌-◌, ◌≤◌, length, drop}
use Rattle.acc_rows.specs.Answers.{behind}
use Rattle.acc_rows.specs.Sparse.{mixed}
use Rattle.acc_rows.proofs.sparse.push_mixed.Given as goal

abbrev pub invariant-loop-i : goal.invariant-loop-i
invariant-loop-i l =
    record {
      in_xs : l.i ≤ length l.xs;
      in_ys : l.j ≤ length l.ys;
      so_far : behind l.out.items (mixed l.fn.p l.fn.q (drop l.i l.xs) (drop l.j l.ys))
          ≡ behind l.fn.out.items (mixed l.fn.p l.fn.q l.xs l.ys);
    }

abbrev pub decreases-loop-i : goal.decreases-loop-i
decreases-loop-i l = (length l.xs - l.i) + (length l.ys - l.j)
