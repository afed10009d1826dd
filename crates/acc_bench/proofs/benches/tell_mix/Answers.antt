use Rattle.acc_schedule.proofs.Closing.{begun_by}
use Rattle.acc_bench.proofs.benches.tell_mix.Goals as goal

pub returns : goal.returns
returns c =
    let w = c.args.state.now.world in
    let b = c.args.board.now in
    record {
      committed = rw c.deref.ensures.value at c.committed.ensures;
      compensated = rw c.deref-2.ensures.value at c.compensated.ensures;
      blocked = rw c.deref-3.ensures.value at c.marks.ensures;
      victims = rw c.deref-4.ensures.value at c.marks-2.ensures;
      begun =
          begun_by b.numbers.items w.events c.all_begun.result (rw c.deref-5.ensures.value at c.all_begun.ensures.all)
          (rw c.deref-5.ensures.value at c.all_begun.ensures.some) c.requires.full;
    }
