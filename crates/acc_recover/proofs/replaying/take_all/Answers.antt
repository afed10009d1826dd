use Rattle.std.proofs.Common.{ℕ, List, Option, refl, sym, subst, ◌∙◌, arith}
use Rattle.std.specs.Prelude.{take}
use Rattle.acc_base.specs.declared.designs.Design.{Design}
use Rattle.acc_lift.specs.Acceptance.{IsAccepted}
use Rattle.acc_wal.specs.declared.items.Seal.{Seal}
use Rattle.acc_recover.specs.Seals.{TellsFirst}
use Rattle.acc_recover.proofs.Comparisons.{rises_more, rises_to, take_more, come_before, told_more, told_all}
use Rattle.acc_recover.proofs.Ends.{kept_run}
use Rattle.acc_recover.proofs.replaying.take_all.Goals as goal

pub compared-requires : goal.compared-requires
compared-requires g c =
    let now = c.take_between.new.state in
    record {
      kept = kept_run now.design now.design (take c.place_from-to.result c.args.events.now) now.world
          (subst IsAccepted (sym (c.take_between.ensures.design ∙ c.loop-seal.invariant.design)) c.requires.accepted) refl
          c.in_ok-take_between.ensures.come;
    }

pub loop-seal-preserved : goal.loop-seal-preserved
loop-seal-preserved g c =
    let now = c.take_between.new.state in
    let events = c.args.events.now in
    let seals = c.args.seals.now in
    let seal = c.seal-item.result in
    let i = c.loop-seal.seal-index in
    let at = c.loop-seal.at in
    let to = c.place_from-to.result in
    record {
      design = c.take_between.ensures.design ∙ c.loop-seal.invariant.design;
      within = omega (arith, c.place_from-to.ensures);
      come = c.in_ok-take_between.ensures.come;
      rises = λ from.
          let above = rises_to seals i seal c.loop-seal-test.true c.seal-item.is at (c.loop-seal.invariant.rises from) in
          rises_more seals i seal c.loop-seal-test.true c.seal-item.is at to (omega (arith, c.place_from-to.ensures, above))
          (c.loop-seal.invariant.rises from);
      told = λ from.
          let above = rises_to seals i seal c.loop-seal-test.true c.seal-item.is at (c.loop-seal.invariant.rises from) in
          let come = come_before now.design events now.world seal.place at to above c.place_from-to.ensures
          c.in_ok-take_between.ensures.come in
          subst (λ (l : List Seal). TellsFirst now.design events l c.in-Ok.now)
          (sym (take_more seals i seal c.loop-seal-test.true c.seal-item.is))
          (told_more now.design events now.world (take i seals) seal come c.loop-seal.first c.in-Ok.now c.in-Ok.ensures
          (subst (λ (d : Design). TellsFirst d events (take i seals) c.loop-seal.first) (sym c.take_between.ensures.design)
          (c.loop-seal.invariant.told from)));
    }

pub returns-in-None-clause-sealed : goal.returns-in-None-clause-sealed
returns-in-None-clause-sealed g c = λ from.
    let events = c.args.events.now in
    let seals = c.args.seals.now in
    let i = c.loop-seal.seal-index in
    let told = subst (λ (d : Design). TellsFirst d events (take i seals) c.loop-seal.first) (sym c.take_between-2.ensures.design)
    (c.loop-seal.invariant.told from) in
    subst (λ (o : Option ℕ). TellsFirst c.take_between-2.new.state.design events seals o) c.in-None.is
    (told_all c.take_between-2.new.state.design events seals i c.loop-seal.first
    (omega (arith, c.loop-seal-test.false, c.loop-seal.auto.seal-index-end)) told)
