-- The lines so far, and then those of the obligations that are left, are all; and what completes the proofs from here completes them.
use Rattle.std.proofs.Common.{List, length}
use Rattle.acc_page.specs.Written.{Owes}
use Rattle.acc_axioms.specs.declared.nodes.Proof.{Proof}
use Rattle.acc_cert_prove.specs.Lines.{open_lines}
use Rattle.acc_cert_prove.specs.Founds.{AddsProofs}
use Rattle.acc_cert_prove.proofs.proving.prove_each.Given as goal

abbrev pub invariant-loop-left : goal.invariant-loop-left
invariant-loop-left g l = record {
  lines : Owes l.fn.lines l.lines (open_lines l.d l.left) (open_lines l.d l.sequents);
  proofs : (new : List Proof) → AddsProofs l.d l.left l.proofs.items new → AddsProofs l.d l.sequents l.fn.proofs.items new;
}

abbrev pub decreases-loop-left : goal.decreases-loop-left
decreases-loop-left g l = length l.left
