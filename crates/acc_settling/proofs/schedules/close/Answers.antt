use Rattle.std.proofs.Common.{◌≡◌, ◌∙◌, ◌++◌, ℕ, [], length, ap, sym, subst}
use Rattle.std.specs.Prelude.{codes}
use Rattle.std.specs.Fmt.{decimal}
use Rattle.acc_base.specs.declared.designs.Design.{Design}
use Rattle.acc_base.specs.Lines.{line}
use Rattle.acc_base.specs.Machine.{World, unfinished}
use Rattle.acc_engine.specs.Keeping.{Journalled}
use Rattle.acc_schedule.specs.Schedules.{EndsWell}
use Rattle.acc_schedule.proofs.Closing.{idle_between, begun_by}
use Rattle.acc_settling.proofs.schedules.close.Goals as goal

pub returns-clause-closed : goal.returns-clause-closed
returns-clause-closed g c =
    let e = c.args.player.now in
    let b = c.args.board.now in
    let st = c.state-state.result.now in
    let world : st.world ≡ e.state =
    c.state-state.ensures.state.0 ∙ ap (λ (j : Journalled g.row.D.Denot). j.state) c.player.view_is in
    let design : st.design ≡ e.design =
    c.state-state.ensures.state.1 ∙ ap (λ (j : Journalled g.row.D.Denot). j.design) c.player.view_is in
    let ends : EndsWell st.design st.world.events st.world = record {
      run = c.events.ensures.run;
      good = c.events.ensures.good;
      annotated = c.events.ensures.annotated;
      idle = idle_between st.design st.world c.events.ensures.accepted c.events.ensures.good;
      none_left = subst (λ (w : World). unfinished w ≡ []) (sym world) c.requires.over;
    } in
    let count = c.len.ensures ∙ ap length c.events.ensures.events ∙ ap (λ (w : World). length w.events) world in
    record {
      replied = c.push_replies.new.text.items;
      replies = rw c.as_slice.ensures.value at c.in_ok-push_replies.ensures;
      text =
          c.in_ok-push_events.ensures.ok
          ∙ ap (λ (n : ℕ). c.push_replies.new.text.items ++ line (codes "events " ++ decimal n)) count;
      ends_well =
          subst (λ (d : Design). EndsWell d e.state.events e.state) design
          (subst (λ (w : World). EndsWell st.design w.events w) world ends);
      begun =
          begun_by b.numbers.items e.state.events c.all_begun.result (rw c.deref.ensures.value at c.all_begun.ensures.all)
          (rw c.deref.ensures.value at c.all_begun.ensures.some) c.requires.full;
    }
