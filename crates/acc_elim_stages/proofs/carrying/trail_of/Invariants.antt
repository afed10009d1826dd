use Rattle.std.proofs.Common.{◌≡◌, false, take, Ok}
use Rattle.std.specs.Prelude.{reverse, IfSome}
use Rattle.acc_elim_stages.specs.Followed.{told}
use Rattle.acc_elim_stages.specs.Carried.{noticed}
use Rattle.acc_elim_stages.proofs.carrying.trail_of.Given as goal

abbrev pub invariant-loop-place : goal.invariant-loop-place
invariant-loop-place l = record {
  so_far : noticed l.path.first (reverse (take l.place l.path.steps)) l.fn.rest ≡ Ok (reverse l.notes, l.left);
  untold : IfSome l.left (λ row. told l.path.first (reverse (take l.place l.path.steps)) row ≡ false);
}
