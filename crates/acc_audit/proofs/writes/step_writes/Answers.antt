use Rattle.std.proofs.Common.{◌^◌, length, sym, ap, ◌∙◌, subst, arith}
use Rattle.std.specs.Prelude.{option_copied}
use Rattle.acc_base.specs.Machine.{unfinished}
use Rattle.acc_base.specs.Tables.{IsInOrder}
use Rattle.acc_store.specs.Bounds.{AreWithin}
use Rattle.acc_step.proofs.Bounds.{within_weaker}
use Rattle.acc_plain.proofs.Steady.{reach, steady_reached}
use Rattle.acc_audit.specs.Since.{frame_of}
use Rattle.acc_audit.proofs.SmallFrames.{frames_small, found_small}
use Rattle.acc_audit.proofs.writes.step_writes.Goals as goal

pub effect-requires-clause-fits : goal.effect-requires-clause-fits
effect-requires-clause-fits g c =
    let m = c.args.machine.now in
    let few = c.requires.few in
    found_small (unfinished m.world) c.args.t c.in-Some.frame.now
    (frames_small m.design m.world c.events-run.ensures.run (omega (arith, few)))
    (ap (frame_of c.args.t) (sym c.unfinished.ensures) ∙ sym c.frame_of.ensures ∙ ap option_copied c.in-Some.is)

pub effect-requires-clause-order : goal.effect-requires-clause-order
effect-requires-clause-order g c =
    let m = c.args.machine.now in
    let few = c.requires.few in
    subst IsInOrder (sym c.store.ensures) (steady_reached m.design m.world c.events-run.ensures.run (omega (arith, few))).order

pub effect-requires-clause-within : goal.effect-requires-clause-within
effect-requires-clause-within g c =
    let m = c.args.machine.now in
    let few = c.requires.few in
    let s = steady_reached m.design m.world c.events-run.ensures.run (omega (arith, few)) in
    subst (AreWithin (2 ^ 120)) (sym c.store.ensures)
    (within_weaker (reach (length m.world.events)) (2 ^ 120) (omega (arith, few)) m.world.rows s.within)
