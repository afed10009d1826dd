use Rattle.std.proofs.Common.{◌≡◌, drop, map}
use Rattle.acc_instanced.specs.Summands.{part_summand, with_summands, are_summands_wide}
use Rattle.acc_instances.proofs.summands.add_parts.Given as goal

abbrev pub invariant-loop-part : goal.invariant-loop-part
invariant-loop-part l =
    record {
      value : with_summands (map (part_summand l.under l.m) (drop l.part-index l.parts)) l.gained ≡ with_summands
          (map (part_summand l.under l.m) l.parts) l.fn.gained;
      wide : are_summands_wide (map (part_summand l.under l.m) (drop l.part-index l.parts)) l.gained ≡ are_summands_wide
          (map (part_summand l.under l.m) l.parts) l.fn.gained;
    }
