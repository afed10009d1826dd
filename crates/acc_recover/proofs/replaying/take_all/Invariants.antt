use Rattle.std.proofs.Common.{◌≡◌, ◌≤◌, length, drop}
use Rattle.std.specs.Prelude.{take}
use Rattle.acc_base.specs.Machine.{start}
use Rattle.acc_base.specs.Lawful.{LeadLawfully}
use Rattle.acc_recover.specs.Seals.{AreFrom, TellsFirst}
use Rattle.acc_recover.proofs.replaying.take_all.Given as goal

-- the events so far have come, the states so far are compared, and where the places never fall none of the others stands before here
abbrev pub invariant-loop-seal : goal.invariant-loop-seal
invariant-loop-seal g l = record {
  design : l.state.design ≡ l.fn.state.design;
  within : l.at ≤ length l.events;
  come : LeadLawfully l.state.design start (take l.at l.events) l.state.world;
  rises : AreFrom 0 l.seals → AreFrom l.at (drop l.seal-index l.seals);
  told : AreFrom 0 l.seals → TellsFirst l.state.design l.events (take l.seal-index l.seals) l.first;
}
