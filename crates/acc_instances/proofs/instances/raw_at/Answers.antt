use Rattle.std.proofs.Common.{rules, ◌∙◌}
use Rattle.std.specs.Prelude.{FitsSigned}
use Rattle.std.specs.Int.{w128}
use Rattle.std.proofs.lemmas.Int.{to_z-of_z}
use Rattle.acc_instances.proofs.InstanceLoops.{raw_step, wide_step}
use Rattle.acc_instances.proofs.instances.raw_at.Goals as goal

pub loop-unknown-preserved : goal.loop-unknown-preserved
loop-unknown-preserved c =
    let term = c.loop-unknown-item.result in
    let fits : FitsSigned w128 term.1 = search rules in
    let number = to_z-of_z w128 term.1 fits in
    let terms = c.as_slice-unknown-items.result.now in
    let g = c.loop-unknown.gained in
    let before = c.loop-unknown.invariant in
    let added = c.in_ok-add_term_at.ensures in
    let own = c.args.own.now in
    let i = c.loop-unknown.unknown-index in
    let within = c.loop-unknown-test.true in
    let here = c.loop-unknown-item.is in
    let value = raw_step c.args.n own terms i term within here _ number g _ added.value in
    let wide = wide_step c.args.n own terms i term within here _ number g _ added.value added.wide in
    record {
      items = before.items;
      value = value ∙ before.value;
      wide = wide ∙ before.wide;
    }
