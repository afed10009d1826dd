-- The items so far are within their bounds; where all items are near, so are those that are left.
use Rattle.std.proofs.Common.{◌≡◌, drop}
use Rattle.std.specs.Prelude.{IsTrue}
use Rattle.std.specs.List.{list_all}
use Rattle.acc_cert_bounds.proofs.bounded.SeqBounded.is_in_bounds.Given as goal

abbrev pub invariant-loop-item : goal.invariant-loop-item
invariant-loop-item g l =
    record {
      so_far : list_all g.A.Bounded.in_bounds (drop l.item-index l.item-items) ≡ list_all g.A.Bounded.in_bounds l.item-items;
      near : IsTrue (list_all g.A.Bounded.near l.item-items) → IsTrue (list_all g.A.Bounded.near (drop l.item-index l.item-items));
    }
