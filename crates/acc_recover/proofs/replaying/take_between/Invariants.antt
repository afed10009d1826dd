use Rattle.std.proofs.Common.{◌≡◌}
use Rattle.std.specs.Prelude.{take}
use Rattle.acc_base.specs.Machine.{start}
use Rattle.acc_base.specs.Lawful.{LeadLawfully}
use Rattle.acc_recover.proofs.replaying.take_between.Given as goal

-- the events so far have come
abbrev pub invariant-loop-at : goal.invariant-loop-at
invariant-loop-at g l = record {
  design : l.state.design ≡ l.initial.state.design;
  come : LeadLawfully l.initial.state.design start (take l.at l.events) l.state.world;
}
