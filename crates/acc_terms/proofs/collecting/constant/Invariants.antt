use Rattle.std.proofs.Common.{◌≡◌, ◌≤◌, ◌*◌, ◌^◌, take}
use Rattle.std.specs.Prelude.{unsigned_abs}
use Rattle.acc_terms.specs.Parts.{constant_of}
use Rattle.acc_terms.proofs.collecting.constant.Given as goal

abbrev pub invariant-loop-part : goal.invariant-loop-part
invariant-loop-part g l =
    record {
      so_far : l.sum ≡ constant_of (take l.part-index l.parts);
      bound : unsigned_abs l.sum ≤ l.part-index * 2 ^ 64;
    }
