use Rattle.std.proofs.Common.{◌≡◌, ◌++◌}
use Rattle.acc_store.specs.Rows.{live}
use Rattle.acc_store.proofs.maps.push_rows.Given as goal

abbrev pub invariant-loop-place : goal.invariant-loop-place
invariant-loop-place l = l.rows.items ++ live l.place-iterator ≡ l.fn.rows.items ++ live l.run.entries
