-- The proofs of the findings so far are added, and the first reason why one isn't found is kept.
use Rattle.std.proofs.Common.{◌≡◌, ◌++◌}
use Rattle.std.specs.List.{AllByRecursion}
use Rattle.acc_cert_prove.specs.Findings.{HasEnded, finding_proofs}
use Rattle.acc_advise.specs.Stops.{first_stop}
use Rattle.acc_advise.proofs.trials.add_all.Given as goal

abbrev pub invariant-loop-finding : goal.invariant-loop-finding
invariant-loop-finding l = record {
  can : (goal.iterator-loop-finding).can_next l.finding-iterator;
  finite : (goal.iterator-loop-finding).is_finite l.finding-iterator;
  proofs : l.proofs.items ≡ l.fn.proofs.items ++ finding_proofs l.yielded;
  stop : l.stop ≡ first_stop l.yielded;
  ended : AllByRecursion HasEnded l.yielded;
}
