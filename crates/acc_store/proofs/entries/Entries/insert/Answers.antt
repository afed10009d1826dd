use Rattle.std.proofs.Common.{◌∙◌, sym, ap, length, ◌+◌}
use Rattle.acc_base.specs.Tables.{place_cmp}
use Rattle.acc_store.specs.Rows.{entry_at}
use Rattle.acc_store.specs.Runs.{all_of}
use Rattle.acc_store.proofs.Laid.{length_inserted}
use Rattle.acc_store.proofs.entries.Entries.insert.Goals as goal

pub invariant_of-self-2 : goal.invariant_of-self-2
invariant_of-self-2 c = (
  c.in_ok-put_at.ensures.laid,
  ap (λ n. n + 1) c.self.invariant.1 ∙ sym (ap length c.in_ok-put_at.ensures.ok ∙
      length_inserted place_cmp c.args.place c.args.slot (all_of c.self.inside.runs)
      (ap (λ s. entry_at c.args.place s.entries) c.self.view_is ∙ c.requires.absent)),
)
