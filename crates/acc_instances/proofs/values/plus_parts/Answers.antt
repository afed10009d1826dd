use Rattle.std.proofs.Common.{rules, get_or, pos, ◌∙◌}
use Rattle.std.specs.Prelude.{FitsSigned}
use Rattle.std.specs.Int.{w64}
use Rattle.std.proofs.lemmas.Int.{to_z-of_z}
use Rattle.acc_instances.proofs.InstanceLoops.{part_step, long_step}
use Rattle.acc_instances.proofs.values.plus_parts.Goals as goal

pub loop-variable-preserved : goal.loop-variable-preserved
loop-variable-preserved c =
    let ks = c.args.coeffs.now in
    let i = c.loop-variable.variable-index in
    let fits : FitsSigned w64 (get_or ks i (0, pos 0)).1 = search rules in
    let number = to_z-of_z w64 (get_or ks i (0, pos 0)).1 fits in
    let within = c.loop-variable-test.true in
    let before = c.loop-variable.s in
    let after = c.in_ok-s.s in
    let added = c.in_ok-s.ensures in
    let value = part_step c.args.n c.args.own.now ks i within _ number before after added.value in
    let wide = long_step c.args.n c.args.own.now ks i within _ number before after added.value added.wide in
    record {
      value = value ∙ c.loop-variable.invariant.value;
      wide = wide ∙ c.loop-variable.invariant.wide;
    }
