use Rattle.std.proofs.Common.{◌||◌, ap, ◌∙◌}
use Rattle.std.specs.Ordering.{int_cmp}
use Rattle.std.specs.BTreeSet.{contains}
use Rattle.acc_audit_ranges.specs.Keyed.{shows}
use Rattle.acc_audit_ranges.proofs.Adding.{walk_end}
use Rattle.acc_audit_ranges.proofs.Giving.{shown_all}
use Rattle.acc_audit_ranges.proofs.keyed.add_values.Goals as goal

pub returns : goal.returns
returns c = λ q.
    walk_end (shows q) (contains int_cmp c.loop-x.values q) _ c.loop-x.x-iterator c.in-None.ensures.steps.0 (c.loop-x.invariant q)
    ∙ ap (λ b. contains int_cmp c.args.values.now q || b) (shown_all c.args.counted.now q c.iter-x-items.ensures.found)
