use Rattle.std.proofs.Common.{◌∙◌, sym, ◌++◌}
use Rattle.std.specs.Ordering.{is_gt}
use Rattle.std.specs.BTreeMap.Range.{range_contains}
use Rattle.std.specs.declared.ops.Bound.TheVariants.{Included}
use Rattle.acc_base.specs.Tables.{place_cmp}
use Rattle.acc_store.specs.Runs.{seen, joined, opened, between}
use Rattle.acc_store.proofs.Laid.{stepped_back}
use Rattle.acc_store.proofs.walks.Walk.next_back.Goals as goal

pub loop-entry-preserved : goal.loop-entry-preserved
loop-entry-preserved c =
    let w = c.loop-entry.self in
    let v = c.open.new.self in
    let run = c.in-Some-next_back.run'.now in
    let here = c.in_default.ensures in
    let start = c.open.ensures.ends.0 ∙ here.ends.0 in
    let last = c.open.ensures.ends.1 ∙ here.ends.1 in
    record {
      left = (λ i. between (start i) (last i) (joined (seen (c.open.ensures.runs i))) ++ opened v.open) ∙
          stepped_back (λ e. range_contains place_cmp (Included w.start) (Included w.last) e.0) (opened w.open) (opened v.open) w.runs
          c.next_back.new.self
          c.in-Some-next_back.field-0-0.now run here.open.0 (sym here.runs ∙ c.in-Some-next_back.ensures.steps)
          (c.open.ensures.open ∙ (λ i. between (here.ends.0 i) (here.ends.1 i) run.entries)) ∙ c.loop-entry.invariant.left;
      forward = (λ i. is_gt (place_cmp (start i) (last i))) ∙ c.loop-entry.invariant.forward;
      ends = (start ∙ c.loop-entry.invariant.ends.0, last ∙ c.loop-entry.invariant.ends.1);
    }
