use Rattle.std.proofs.Common.{sym, ap, subst, ◌∙◌}
use Rattle.acc_base.specs.Machine.{World}
use Rattle.acc_machine.specs.Turned.{IsUnfinished}
use Rattle.acc_engine.specs.Keeping.{Journalled}
use Rattle.acc_engine.specs.Standing.{IsSound}
use Rattle.acc_engine.proofs.InSteps.{turn_short, in_step_turned, adds_or, small_number}
use Rattle.acc_engine.proofs.Sealed.{still_held}
use Rattle.acc_engine.proofs.Standing.{seen_again, sound_turned}
use Rattle.acc_engine.proofs.Turned.{turn_adds}
use Rattle.acc_engine.proofs.engines.Engine.turn.Goals as goal

pub note-requires-clause-short : goal.note-requires-clause-short
note-requires-clause-short g c =
    let old = c.self.inside in
    turn_short old.state.design old.state.design old.state.world old.state.world old.wal c.reserve.new.self c.reserve.new.self old.found
    old.calls old.begun.items old.lowest c.self.invariant.0 c.reserve.ensures.same.lists c.self.invariant.1

pub note-requires-clause-number : goal.note-requires-clause-number
note-requires-clause-number g c =
    let old = c.self.inside.state in
    small_number old.design old.world c.args.t c.self.invariant.0.state
    (subst (λ (w : World). IsUnfinished c.args.t w) (sym (ap (λ (j : Journalled g.row.D.Denot). j.state) c.self.view_is))
    c.requires.unfinished)

pub invariant_of-self-in-Ok-turn : goal.invariant_of-self-in-Ok-turn
invariant_of-self-in-Ok-turn g c =
    let old = c.self.inside in
    let now = c.turn.new.self in (
      in_step_turned old.state.design now.design old.state.world now.world old.wal c.reserve.new.self c.note.new.wal old.found old.calls
          old.begun.items old.lowest c.self.invariant.0 c.reserve.ensures.same.lists
          c.args.t (adds_or c.args.t c.in-Ok-turn.turn old.state.world now.world c.in-Ok-turn.ensures.adds) c.turn.ensures.design
          c.note.ensures.kept c.note.ensures.up,
      let more = turn_adds old.state.world now.world c.args.t c.in-Ok-turn.turn c.in-Ok-turn.ensures.adds in
          still_held old.state.design now.design old.state.world.events now.world.events more.0 old.wal.waiting c.note.new.wal.waiting
          c.turn.ensures.design more.1 (c.note.ensures.up.waiting ∙ c.reserve.ensures.same.lists.waiting) c.self.invariant.1,
      c.self.invariant.2 ∙ sym (c.note.ensures.up.spent ∙ c.reserve.ensures.same.spent),
    )

pub returns-in-Ok-turn-clause-sound : goal.returns-in-Ok-turn-clause-sound
returns-in-Ok-turn-clause-sound g c =
    let old = c.self.inside in
    let now = c.turn.new.self in
    let adds = adds_or c.args.t c.in-Ok-turn.turn old.state.world now.world c.in-Ok-turn.ensures.adds in
    let step = in_step_turned old.state.design now.design old.state.world now.world old.wal c.reserve.new.self c.note.new.wal old.found
    old.calls old.begun.items old.lowest c.self.invariant.0 c.reserve.ensures.same.lists c.args.t adds c.turn.ensures.design
    c.note.ensures.kept c.note.ensures.up in
    sound_turned g.D.Disk.told old.state.design now.design old.state.world now.world old.wal c.reserve.new.self c.note.new.wal old.found
    old.calls old.begun.items old.lowest c.reserve.ensures.same c.note.ensures.up c.turn.ensures.design step
    (subst (IsSound g.D.Disk.told) (sym c.self.view_is) c.standing.ensures) c.args.t adds

pub returns-in-Err-Memory-turn-clause-sound : goal.returns-in-Err-Memory-turn-clause-sound
returns-in-Err-Memory-turn-clause-sound g c =
    let old = c.self.inside in
    let now = c.turn.new.self in
    subst (IsSound g.D.Disk.told)
    (sym
    (seen_again old.state.design now.design old.state.world now.world old.wal c.reserve.new.self old.found old.calls old.begun.items
    c.turn.ensures.design c.in-Err-Memory-turn.ensures.err c.reserve.ensures.same ∙ c.self.view_is))
    c.standing.ensures
