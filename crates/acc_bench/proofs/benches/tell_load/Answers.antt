use Rattle.std.proofs.Common.{◌≡◌, ◌∙◌, length, ap, rules}
use Rattle.acc_base.specs.Machine.{World}
use Rattle.acc_player.specs.Playing.{Playing}
use Rattle.acc_schedule.proofs.Closing.{begun_by}
use Rattle.acc_bench.proofs.benches.tell_load.Goals as goal

pub returns : goal.returns
returns c =
    let b = c.args.board.now in
    let es = c.args.player.now.world.events in
    record {
      places = search rules;
      events = c.len.ensures ∙ ap length c.events.ensures.events ∙ ap (λ (p : Playing). length p.world.events) c.player.view_is;
      begun =
          begun_by b.numbers.items es c.all_begun.result (rw c.deref.ensures.value at c.all_begun.ensures.all)
          (rw c.deref.ensures.value at c.all_begun.ensures.some) c.requires.full;
    }
