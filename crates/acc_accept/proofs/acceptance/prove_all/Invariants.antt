-- Each obligation so far is proved by the proof at its place.
use Rattle.std.proofs.Common.{◌≡◌, ℕ, ◌<◌, Some}
use Rattle.std.specs.Prelude.{slice_get}
use Rattle.acc_base.specs.declared.sequents.Sequent.{Sequent}
use Rattle.acc_accept.specs.Accepting.{IsProved}
use Rattle.acc_accept.proofs.acceptance.prove_all.Given as goal

abbrev pub invariant-loop-place : goal.invariant-loop-place
invariant-loop-place l =
    (n : ℕ) (q : Sequent) → n < l.place → slice_get l.sequents n ≡ Some q → IsProved l.d q (slice_get l.proofs n)
