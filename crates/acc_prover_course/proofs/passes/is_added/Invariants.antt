use Rattle.std.proofs.Common.{◌≡◌, drop}
use Rattle.std.specs.List.{list_any}
use Rattle.acc_prover_course.specs.Passes.{is_place}
use Rattle.acc_prover_course.proofs.passes.is_added.Given as goal

abbrev pub invariant-loop-j : goal.invariant-loop-j
invariant-loop-j l =
    list_any (is_place l.i) (drop l.j-index l.insts) ≡ list_any (is_place l.i) l.insts
