use Rattle.std.proofs.Common.{◌∙◌, subst, arith}
use Rattle.acc_base.specs.Lawful.{IsLawful}
use Rattle.acc_base.specs.Machine.{start}
use Rattle.acc_machine.proofs.Replaying.{come_on}
use Rattle.acc_recover.proofs.replaying.take_between.Goals as goal

pub loop-at-preserved : goal.loop-at-preserved
loop-at-preserved g c =
    let lawful = subst (λ d. IsLawful d c.loop-at.state.world c.index-events-at.result c.take.new.self.world) c.loop-at.invariant.design
    c.in-Ok.ensures.taken in
    record {
      design = c.take.ensures.design ∙ c.loop-at.invariant.design;
      come = come_on c.args.state.now.design start c.loop-at.state.world c.args.events.now c.loop-at.at
          c.loop-at.invariant.come c.take.new.self.world c.index-events-at.result (omega (arith, c.loop-at-test.true, c.requires.within))
          c.index-events-at.is lawful;
    }
