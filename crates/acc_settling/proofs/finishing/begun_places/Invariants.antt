use Rattle.std.proofs.Common.{◌≡◌, ◌<◌, ℕ, true}
use Rattle.acc_engine.specs.Keeping.{is_begun}
use Rattle.acc_settling.proofs.finishing.begun_places.Given as goal

abbrev pub invariant-loop-at : goal.invariant-loop-at
invariant-loop-at g l = (p : ℕ) → p < l.at → is_begun l.engine.begun p ≡ true
