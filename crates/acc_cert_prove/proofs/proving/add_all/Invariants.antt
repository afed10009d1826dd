-- The lines and the proofs of the findings so far are added, and memory lasted for each.
use Rattle.std.proofs.Common.{◌≡◌, ◌++◌}
use Rattle.std.specs.List.{AllByRecursion}
use Rattle.acc_page.specs.Written.{Adds}
use Rattle.acc_cert_prove.specs.Findings.{HasEnded, finding_lines, finding_proofs}
use Rattle.acc_cert_prove.proofs.proving.add_all.Given as goal

abbrev pub invariant-loop-finding : goal.invariant-loop-finding
invariant-loop-finding l = record {
  can : (goal.iterator-loop-finding).can_next l.finding-iterator;
  finite : (goal.iterator-loop-finding).is_finite l.finding-iterator;
  lines : Adds l.fn.lines l.lines (finding_lines l.d l.yielded);
  proofs : l.proofs.items ≡ l.fn.proofs.items ++ finding_proofs l.yielded;
  ended : AllByRecursion HasEnded l.yielded;
}
