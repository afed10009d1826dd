use Rattle.std.proofs.Common.{sym, ap, ◌∙◌, ◌&&◌, ◌||◌, take}
use Rattle.std.specs.Ordering.{int_cmp}
use Rattle.std.specs.BTreeSet.{contains}
use Rattle.acc_formed.specs.Widths.{is_variable}
use Rattle.acc_audit_ranges.specs.Ranges.{parts_have, key_gives}
use Rattle.acc_audit_ranges.proofs.Adding.{adds_both}
use Rattle.acc_audit_ranges.proofs.KeyParts.{key_more}
use Rattle.acc_audit_ranges.proofs.ranges.add_key.Goals as goal

pub loop-place-preserved : goal.loop-place-preserved
loop-place-preserved g c = λ q.
    let db = c.args.s.now in
    let l = c.index-key-place.result in
    adds_both (λ q. key_gives db c.args.table c.args.variable q 0 (take c.loop-place.place c.args.key.now))
    (λ q. is_variable c.args.variable l && parts_have db c.args.table c.loop-place.place q)
    c.args.values.now c.loop-place.values c.add_at.new.values c.loop-place.invariant c.in_ok-add_at.ensures q
    ∙ ap (λ b. contains int_cmp c.args.values.now q || b)
    (sym (key_more db c.args.table c.args.variable q c.args.key.now c.loop-place.place l l c.loop-place-test.true c.index-key-place.is))
