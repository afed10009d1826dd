use Rattle.std.proofs.Common.{◌≡◌, take}
use Rattle.acc_base.specs.Lawful.{LeadLawfully}
use Rattle.acc_machine.proofs.replays.take_all.Given as goal

-- the events so far have come
abbrev pub invariant-loop-at : goal.invariant-loop-at
invariant-loop-at g l =
    record {
      design : l.state.design ≡ l.initial.state.design;
      come : LeadLawfully l.initial.state.design l.initial.state.world (take l.at l.events) l.state.world;
    }
