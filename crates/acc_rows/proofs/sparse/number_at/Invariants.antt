use Rattle.std.proofs.Common.{◌≡◌, drop}
use Rattle.acc_rows.specs.Sparse.{at}
use Rattle.acc_rows.proofs.sparse.number_at.Given as goal

abbrev pub invariant-loop-p : goal.invariant-loop-p
invariant-loop-p l = at l.fn.place (drop l.p-index l.numbers) ≡ at l.fn.place l.numbers
