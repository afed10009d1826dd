use Rattle.std.proofs.Common.{◌≡◌, ◌≤◌, length}
use Rattle.acc_audit.proofs.Telling.{IsWalked}
use Rattle.acc_audit.proofs.audits.walk.Given as goal

abbrev pub invariant-loop-place : goal.invariant-loop-place
invariant-loop-place g l = record {
  design : l.machine.design ≡ l.d;
  walked : IsWalked l.d l.events l.place l.machine.world;
  count : length l.machine.world.events ≤ l.place;
}
