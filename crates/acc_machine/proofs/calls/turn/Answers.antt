use Rattle.std.proofs.Common.{◌∙◌, sym}
use Rattle.acc_machine.proofs.Going.{kept_turn}
use Rattle.acc_machine.proofs.Standing.{room}
use Rattle.acc_machine.proofs.Behind.{keeps_formed, keeps_points, keeps_apart, state_kept, state_same, turn_stays}
use Rattle.acc_machine.proofs.calls.turn.Goals as goal

pub turn-requires-clause-room : goal.turn-requires-clause-room
turn-requires-clause-room g c = room c.args.machine.now.design c.args.machine.now.world c.requires.state.kept

pub returns-in_err-turn-clause-state : goal.returns-in_err-turn-clause-state
returns-in_err-turn-clause-state g c =
    let m = c.args.machine.now in
    let n = c.turn.new.self in
    state_same c.args.d.now m.design n.design m.world n.world c.args.kept.now.index c.requires.state c.turn.ensures.design
    c.in_err-turn.ensures.err

pub keep-requires : goal.keep-requires
keep-requires g c =
    let m = c.args.machine.now in
    let n = c.turn.new.self in
    let d = c.args.d.now in
    let same = c.requires.state.same ∙ sym c.turn.ensures.design in
    let kept = kept_turn m.design m.world c.args.t c.requires.state.kept c.requires.unfinished c.requires.free n.design n.world
    c.turn.result c.turn.ensures.design c.turn.ensures.turn c.turn.ensures.err in
    let fs = c.unfinished.result.now in
    record {
      formed = keeps_formed d n.design n.world same kept fs c.unfinished.ensures;
      points = keeps_points d n.design n.world same kept fs c.unfinished.ensures;
      apart = keeps_apart d n.design n.world same kept fs c.unfinished.ensures;
    }

pub returns-clause-state : goal.returns-clause-state
returns-clause-state g c =
    let m = c.args.machine.now in
    let n = c.turn.new.self in
    let d = c.args.d.now in
    let same = c.requires.state.same ∙ sym c.turn.ensures.design in
    let kept = kept_turn m.design m.world c.args.t c.requires.state.kept c.requires.unfinished c.requires.free n.design n.world
    c.turn.result c.turn.ensures.design c.turn.ensures.turn c.turn.ensures.err in
    let stay = turn_stays m.design m.world c.args.t c.requires.state.kept c.requires.unfinished c.requires.free n.world c.in_ok-turn.turn
    c.in_ok-turn.ensures.turn in
    state_kept d n.design n.world same kept c.unfinished.result.now c.unfinished.ensures m.design m.world c.args.kept.now.index
    c.keep.new.self.index c.args.t c.requires.state stay c.keep.ensures.stands
