use Rattle.std.proofs.Common.{◌≡◌, List, rules, sym, subst, nat_lt}
use Rattle.std.proofs.lemmas.List.Sorted.{IsPartitionPoint-from_clause}
use Rattle.acc_base.specs.declared.machines.Frame.{Frame}
use Rattle.acc_plain.specs.Kept.{IsRising, IsAt, Holds}
use Rattle.acc_plain.proofs.Slots.{below_first, first_not_below}
use Rattle.acc_plain.proofs.frames.Frames.place.Goals as goal

pub returns : goal.returns
returns c =
    let fs = c.as_slice.result.now in
    let same : fs ≡ c.args.self.now = c.as_slice.ensures in
    let up = subst IsRising (sym same) c.requires.rising in
    let held = subst (λ (zs : List Frame). Holds zs c.args.t) (sym same) c.requires.held in
    let point = IsPartitionPoint-from_clause (λ f. nat_lt f.t c.args.t) fs c.partition_point.result c.partition_point.ensures.partitioned
    (below_first fs c.args.t up) (λ a r g called. search rules) in
    subst (λ (zs : List Frame). IsAt zs c.args.t c.partition_point.result) same
    (first_not_below fs c.args.t c.partition_point.result up held point)
