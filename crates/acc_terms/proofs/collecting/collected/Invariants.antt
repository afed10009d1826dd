use Rattle.std.proofs.Common.{◌≡◌, ◌≤◌, ◌*◌, ◌^◌, take}
use Rattle.std.specs.Prelude.{unsigned_abs, All}
use Rattle.std.specs.List.{filter_map}
use Rattle.acc_terms.specs.Collected.{with_unknown, totals}
use Rattle.acc_terms.proofs.collecting.collected.Given as goal

abbrev pub invariant-loop-part : goal.invariant-loop-part
invariant-loop-part g l =
    record {
      so_far : l.sums ≡ totals g.K.PartialEq.eq (filter_map with_unknown (take l.part-index l.parts));
      bound : All (λ t. unsigned_abs t.1 ≤ l.part-index * 2 ^ 64) l.sums;
    }
