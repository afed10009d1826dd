use Rattle.std.proofs.Common.{◌≡◌, ◌∙◌, [], rules, sym, ap, subst}
use Rattle.acc_base.specs.Machine.{unfinished}
use Rattle.acc_schedule.specs.Schedules.{EndsWell}
use Rattle.acc_schedule.proofs.Closing.{idle_between, begun_by}
use Rattle.acc_player.specs.Playing.{Playing}
use Rattle.acc_schedule.proofs.schedules.close.Goals as goal

pub returns : goal.returns
returns c =
    let d = c.args.player.design in
    let w = c.args.player.world in
    let st = c.player.inside.state in
    let over = subst (λ (p : Playing). unfinished p.world ≡ []) (sym c.player.view_is) c.requires.over in
    let inside : EndsWell st.design st.world.events st.world = record {
      run = c.events.ensures.run;
      good = c.events.ensures.good;
      annotated = c.events.ensures.annotated;
      idle = idle_between st.design st.world c.events.ensures.accepted c.events.ensures.good;
      none_left = over;
    } in
    let ends : EndsWell d w.events w = subst (λ (p : Playing). EndsWell p.design p.world.events p.world) c.player.view_is inside in
    let history : c.into_parts-history.result.1 ≡ w.events =
    c.into_parts-history.ensures.events ∙ ap (λ (p : Playing). p.world.events) c.player.view_is in
    record {
      replied = c.push_replies.new.text.items;
      replies = rw c.as_slice.ensures.value at c.in_ok-push_replies.ensures;
      text = search rules;
      history = history;
      ends_well = ends;
      begun = begun_by c.args.board.numbers.items w.events c.all_begun-all_begun.result
          (rw c.as_slice-2.ensures.value at c.all_begun-all_begun.ensures.all)
          (rw c.as_slice-2.ensures.value at c.all_begun-all_begun.ensures.some) c.requires.full;
    }
