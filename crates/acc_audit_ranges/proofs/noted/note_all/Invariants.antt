use Rattle.std.proofs.Common.{take}
use Rattle.std.specs.List.{AllByRecursion}
use Rattle.acc_audit_ranges.specs.Keyed.{Grows, IsNoted, AreWithin, StaysCounted}
use Rattle.acc_audit_ranges.proofs.noted.note_all.Given as goal

abbrev pub invariant-loop-write : goal.invariant-loop-write
invariant-loop-write l = record {
  grows : Grows l.fn.noted.places l.noted.places;
  noted : AllByRecursion (IsNoted l.noted.places) (take l.write-index l.writes);
  only : AreWithin (take l.write-index l.writes) l.fn.noted.places l.noted.places;
  counted : StaysCounted l.fn.noted l.noted;
}
