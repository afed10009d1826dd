use Rattle.acc_plain.specs.Running.{Running}
use Rattle.acc_machine.proofs.Going.{blocked_so, victim_so, victim_adds, held_comes}
use Rattle.acc_machine.proofs.states.State.wait.Goals as goal

pub returns-then-not-stuck-clause-turn : goal.returns-then-not-stuck-clause-turn
returns-then-not-stuck-clause-turn g c =
    let s : Running = c.args.self.now in
    blocked_so s.design s.world c.args.t (c.args.holder, c.args.entry) c.requires.held (c.stuck.ensures.free c.if-not-stuck.true)

pub turn_back-requires : goal.turn_back-requires
turn_back-requires g c =
    let s : Running = c.args.self.now in
    record {
      comes = held_comes s.design s.world c.args.t (c.args.holder, c.args.entry) c.requires.held
          (c.stuck.ensures.stuck c.if-not-stuck.false);
    }

pub returns-in-Ok-clause-turn : goal.returns-in-Ok-clause-turn
returns-in-Ok-clause-turn g c =
    let s : Running = c.args.self.now in
    victim_so s.design s.world c.args.t (c.args.holder, c.args.entry) c.requires.held c.turn_back.new.self.world
    (c.stuck.ensures.stuck c.if-not-stuck.false) c.in-Ok.ensures.ok

pub returns-in-Ok-clause-adds : goal.returns-in-Ok-clause-adds
returns-in-Ok-clause-adds g c =
    let s : Running = c.args.self.now in
    victim_adds s.design s.world c.args.t (c.args.holder, c.args.entry) c.requires.held c.turn_back.new.self.world c.in-Ok.ensures.ok
