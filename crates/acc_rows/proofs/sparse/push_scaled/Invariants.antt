use Rattle.std.proofs.Common.{◌≡◌, drop}
use Rattle.acc_rows.specs.Answers.{behind}
use Rattle.acc_rows.specs.Sparse.{scaled}
use Rattle.acc_rows.proofs.sparse.push_scaled.Given as goal

abbrev pub invariant-loop-term : goal.invariant-loop-term
invariant-loop-term l = behind l.out.items (scaled l.fn.by (drop l.term-index l.numbers))
    ≡ behind l.fn.out.items (scaled l.fn.by l.numbers)
