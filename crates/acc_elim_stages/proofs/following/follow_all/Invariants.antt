use Rattle.std.proofs.Common.{◌≡◌, false, take, drop, Ok}
use Rattle.std.specs.Prelude.{reverse, IfSome}
use Rattle.acc_base.specs.Computing.{chain, steps}
use Rattle.acc_elim_stages.specs.Followed.{told, followed, followed_all}
use Rattle.acc_elim_stages.proofs.following.follow_all.Given as goal

abbrev pub invariant-loop-place : goal.invariant-loop-place
invariant-loop-place l = record {
  so_far : chain (steps (followed l.path.first) (reverse (take l.place l.path.steps), l.left) (drop l.place l.path.steps)) (λ x. Ok x.1)
      ≡ followed_all l.path l.fn.rest;
  untold : IfSome l.left (λ row. told l.path.first (reverse (take l.place l.path.steps)) row ≡ false);
}
