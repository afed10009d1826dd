use Rattle.std.proofs.Common.{◌∙◌, sym}
use Rattle.acc_machine.proofs.Taking.{kept_taking}
use Rattle.acc_machine.proofs.Standing.{room}
use Rattle.acc_machine.proofs.Behind.{keeps_formed, keeps_points, keeps_apart, state_kept, state_same, take_stays}
use Rattle.acc_machine.proofs.calls.take.Goals as goal

pub take-requires : goal.take-requires
take-requires g c = record { room = room c.args.machine.now.design c.args.machine.now.world c.requires.state.kept }

pub returns-in_err-taken-clause-state : goal.returns-in_err-taken-clause-state
returns-in_err-taken-clause-state g c =
    let m = c.args.machine.now in
    let n = c.take.new.self in
    state_same c.args.d.now m.design n.design m.world n.world c.args.kept.now.index c.requires.state c.take.ensures.design
    c.in_err-taken.ensures.err

pub keep-requires : goal.keep-requires
keep-requires g c =
    let m = c.args.machine.now in
    let n = c.take.new.self in
    let d = c.args.d.now in
    let same = c.requires.state.same ∙ sym c.take.ensures.design in
    let kept = kept_taking m.design m.world n.design n.world c.args.event.now c.take.result c.requires.state.kept c.requires.leave
    c.take.ensures.design c.take.ensures.ok c.take.ensures.err in
    let fs = c.unfinished-frames.result.now in
    record {
      formed = keeps_formed d n.design n.world same kept fs c.unfinished-frames.ensures;
      points = keeps_points d n.design n.world same kept fs c.unfinished-frames.ensures;
      apart = keeps_apart d n.design n.world same kept fs c.unfinished-frames.ensures;
    }

pub returns-clause-state : goal.returns-clause-state
returns-clause-state g c =
    let m = c.args.machine.now in
    let n = c.take.new.self in
    let d = c.args.d.now in
    let same = c.requires.state.same ∙ sym c.take.ensures.design in
    let kept = kept_taking m.design m.world n.design n.world c.args.event.now c.take.result c.requires.state.kept c.requires.leave
    c.take.ensures.design c.take.ensures.ok c.take.ensures.err in
    let are = c.unfinished-frames.ensures in
    let stay = take_stays m.design m.world c.number_of.result n.world c.args.event.now c.in_ok-taken.taken
    (record {
      known = c.number_of.ensures.known;
      newest = λ q fs f e. c.number_of.ensures.newest q fs f (are ∙ e);
    }) c.in_ok-taken.ensures.ok in
    state_kept d n.design n.world same kept c.unfinished-frames.result.now are m.design m.world c.args.kept.now.index
    c.keep.new.self.index c.number_of.result c.requires.state stay c.keep.ensures.stands
