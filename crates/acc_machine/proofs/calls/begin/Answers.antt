use Rattle.std.proofs.Common.{◌∙◌, sym, subst}
use Rattle.acc_base.specs.declared.machines.Event.TheVariants.{Begin}
use Rattle.acc_machine.proofs.Keeping.{kept_after}
use Rattle.acc_machine.proofs.Unchanged.{OthersStay, begin_stays}
use Rattle.acc_machine.proofs.Behind.{keeps_formed, keeps_points, keeps_apart, state_kept, state_same}
use Rattle.acc_machine.proofs.calls.begin.Goals as goal

pub returns-in_err-t-clause-state : goal.returns-in_err-t-clause-state
returns-in_err-t-clause-state g c =
    let m = c.args.machine.now in
    let n = c.begin.new.self in
    state_same c.args.d.now m.design n.design m.world n.world c.args.kept.now.index c.requires.state c.begin.ensures.design
    c.in_err-t.ensures.err

pub keep-requires : goal.keep-requires
keep-requires g c =
    let m = c.args.machine.now in
    let n = c.begin.new.self in
    let d = c.args.d.now in
    let same = c.requires.state.same ∙ sym c.begin.ensures.design in
    let kept = kept_after m.design n.design m.world n.world (Begin c.args.call.now) c.requires.state.kept c.begin.ensures.design
    (record { leave = c.requires.room; event = c.in_ok-t.ensures.ok }) in
    let fs = c.unfinished.result.now in
    record {
      formed = keeps_formed d n.design n.world same kept fs c.unfinished.ensures;
      points = keeps_points d n.design n.world same kept fs c.unfinished.ensures;
      apart = keeps_apart d n.design n.world same kept fs c.unfinished.ensures;
    }

pub returns-clause-state : goal.returns-clause-state
returns-clause-state g c =
    let m = c.args.machine.now in
    let n = c.begin.new.self in
    let d = c.args.d.now in
    let same = c.requires.state.same ∙ sym c.begin.ensures.design in
    let kept = kept_after m.design n.design m.world n.world (Begin c.args.call.now) c.requires.state.kept c.begin.ensures.design
    (record { leave = c.requires.room; event = c.in_ok-t.ensures.ok }) in
    let stay = subst (λ k. OthersStay k m.world n.world) (sym c.in_ok-t.ensures.number)
    (begin_stays m.design m.world n.world c.args.call.now c.in_ok-t.ensures.ok) in
    state_kept d n.design n.world same kept c.unfinished.result.now c.unfinished.ensures m.design m.world c.args.kept.now.index
    c.keep.new.self.index c.in_ok-t.t c.requires.state stay c.keep.ensures.stands
