use Rattle.std.proofs.Common.{sym, subst}
use Rattle.std.specs.Prelude.{IfOk, None}
use Rattle.acc_plain.specs.Running.{Running}
use Rattle.acc_plain.specs.Turned.{IsUnfinished, IsTurned}
use Rattle.acc_machine.specs.IndexedStates.{IsStateOf}
use Rattle.acc_machine.specs.Turns.{IsTurn, TellsHeldAt, AddsBy}
use Rattle.acc_machine.proofs.Going.{has_turn, turned_so, turned_adds}
use Rattle.acc_machine.proofs.states.State.go.Goals as goal
use Rattle.acc_machine.proofs.states.State.go.Goals.{in-Ok-Some, in-Err-Memory}

pub turn-requires-clause-state : goal.turn-requires-clause-state
turn-requires-clause-state g c =
    subst (λ a. IsStateOf a c.self.inside.machine.design c.self.inside.machine.world c.self.inside.kept.index)
    (sym c.design-d.ensures.design) c.self.invariant

pub turn-requires-clause-free : goal.turn-requires-clause-free
turn-requires-clause-free g c =
    subst {A = Running} (λ (s : Running). TellsHeldAt s.design s.world c.args.t None) (sym c.self.view_is) c.requires.free

pub invariant_of-self : goal.invariant_of-self
invariant_of-self g c =
    subst (λ a. IsStateOf a c.turn.new.machine.design c.turn.new.machine.world c.turn.new.kept.index) c.design-d.ensures.design
    c.turn.ensures.state

pub returns-clause-turn : goal.returns-clause-turn
returns-clause-turn g c =
    let m : Running = c.self.inside.machine in
    let open_t = subst {A = Running} (λ (s : Running). IsUnfinished c.args.t s.world) (sym c.self.view_is) c.requires.unfinished in
    let free = subst {A = Running} (λ (s : Running). TellsHeldAt s.design s.world c.args.t None) (sym c.self.view_is) c.requires.free in
    let told : IfOk c.match-turn.result (IsTurn m.design m.world c.turn.new.machine.world c.args.t) =
    elim c.match-turn.branch [
      | in-Ok-Some w ↦ subst (λ r. IfOk r (IsTurn m.design m.world c.turn.new.machine.world c.args.t))
          (sym w.result-is) (turned_so m.design m.world c.args.t c.self.invariant.kept open_t free c.turn.new.machine.world w.in-Ok-Some.turn
          (subst (IsTurned m.design m.world c.turn.new.machine.world c.args.t) w.in-Ok-Some.field-0-is w.in-Ok-Some.ensures.turn))
      | in-Err-Memory w ↦ subst (λ r. IfOk r (IsTurn m.design m.world c.turn.new.machine.world c.args.t)) (sym w.result-is) tt
    ] in
    subst {A = Running} (λ (s : Running). IfOk c.match-turn.result (IsTurn s.design s.world c.turn.new.machine.world c.args.t))
    c.self.view_is told

pub returns-clause-adds : goal.returns-clause-adds
returns-clause-adds g c =
    let m : Running = c.self.inside.machine in
    let open_t = subst {A = Running} (λ (s : Running). IsUnfinished c.args.t s.world) (sym c.self.view_is) c.requires.unfinished in
    let free = subst {A = Running} (λ (s : Running). TellsHeldAt s.design s.world c.args.t None) (sym c.self.view_is) c.requires.free in
    let told : IfOk c.match-turn.result (AddsBy m.world c.turn.new.machine.world c.args.t) =
    elim c.match-turn.branch [
      | in-Ok-Some w ↦ subst (λ r. IfOk r (AddsBy m.world c.turn.new.machine.world c.args.t)) (sym w.result-is)
          (turned_adds m.design m.world c.args.t c.self.invariant.kept open_t free c.turn.new.machine.world w.in-Ok-Some.turn
          (subst (IsTurned m.design m.world c.turn.new.machine.world c.args.t) w.in-Ok-Some.field-0-is w.in-Ok-Some.ensures.turn))
      | in-Err-Memory w ↦ subst (λ r. IfOk r (AddsBy m.world c.turn.new.machine.world c.args.t)) (sym w.result-is) tt
    ] in
    subst {A = Running} (λ (s : Running). IfOk c.match-turn.result (AddsBy s.world c.turn.new.machine.world c.args.t)) c.self.view_is told

-- an unfinished transaction of a kept state has its turn
pub unreachable-requires : goal.unreachable-requires
unreachable-requires g c =
    let m : Running = c.self.inside.machine in
    let open_t = subst {A = Running} (λ (s : Running). IsUnfinished c.args.t s.world) (sym c.self.view_is) c.requires.unfinished in
    let free = subst {A = Running} (λ (s : Running). TellsHeldAt s.design s.world c.args.t None) (sym c.self.view_is) c.requires.free in
    let none = subst (IsTurned m.design m.world c.turn.new.machine.world c.args.t) c.in-Ok-None.field-0-is c.in-Ok-None.ensures.turn in
    has_turn m.design m.world c.args.t c.self.invariant.kept open_t free none.0
