use Rattle.std.proofs.Common.{◌≡◌, [], refl, sym, ap, subst}
use Rattle.acc_base.specs.Machine.{unfinished}
use Rattle.acc_player.specs.Playing.{Playing}
use Rattle.acc_schedule.specs.Schedules.{EndsWell}
use Rattle.acc_schedule.proofs.Closing.{idle_between}
use Rattle.acc_bench.specs.Closings.{TellsEnds}
use Rattle.acc_bench.specs.Runs.{LeavesIfFull}
use Rattle.acc_bench.proofs.benches.close.Goals as goal

pub tell_mix-mixed-requires : goal.tell_mix-mixed-requires
tell_mix-mixed-requires c = record {
  full = subst (λ (p : Playing). LeavesIfFull p.world c.args.board) (sym c.player.view_is) c.requires.full;
}

pub returns : goal.returns
returns c =
    let st = c.player.inside.state in
    let over = subst (λ (p : Playing). unfinished p.world ≡ []) (sym c.player.view_is) c.requires.over in
    let inside : EndsWell st.design st.world.events st.world = record {
      run = c.events-events.ensures.run;
      good = c.events-events.ensures.good;
      annotated = c.events-events.ensures.annotated;
      idle = idle_between st.design st.world c.events-events.ensures.accepted c.events-events.ensures.good;
      none_left = over;
    } in
    record {
      loaded = refl;
      mixed = subst (λ (p : Playing). TellsEnds p.world c.args.board c.tell_mix-mixed.result) c.player.view_is c.tell_mix-mixed.ensures;
      world = ap (λ (p : Playing). p.world) c.player.view_is;
      design = ap (λ (p : Playing). p.design) c.player.view_is;
      ends_well = subst (λ (p : Playing). EndsWell p.design p.world.events p.world) c.player.view_is inside;
    }
