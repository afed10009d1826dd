use Rattle.std.proofs.Common.{◌≡◌, drop}
use Rattle.acc_instanced.specs.Instances.{plus_parts, are_parts_long, zero_lin}
use Rattle.acc_instances.proofs.values.plus_parts.Given as goal

abbrev pub invariant-loop-variable : goal.invariant-loop-variable
invariant-loop-variable l =
    record {
      value : plus_parts l.n l.own (drop l.variable-index l.coeffs) l.s ≡ plus_parts l.n l.own l.coeffs zero_lin;
      wide : are_parts_long l.n l.own (drop l.variable-index l.coeffs) l.s ≡ are_parts_long l.n l.own l.coeffs zero_lin;
    }
