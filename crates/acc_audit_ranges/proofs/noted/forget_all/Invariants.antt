use Rattle.std.proofs.Common.{take}
use Rattle.std.specs.List.{AllByRecursion}
use Rattle.acc_audit_ranges.specs.Keyed.{Covers, Grows, Stands, StaysCounted}
use Rattle.acc_audit_ranges.proofs.noted.forget_all.Given as goal

abbrev pub invariant-loop-place : goal.invariant-loop-place
invariant-loop-place g l =
    let db = g.S.Store.rows l.rows in
    record {
      covers : Covers l.fn.noted.places db → Covers l.noted.places db;
      within : Grows l.noted.places l.fn.noted.places;
      stands : AllByRecursion (Stands l.noted.places db) (take l.place-index l.places);
      counted : StaysCounted l.fn.noted l.noted;
    }
