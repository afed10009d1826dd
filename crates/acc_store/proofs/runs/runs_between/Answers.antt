use Rattle.std.proofs.Common.{◌∙◌, ap}
use Rattle.std.specs.Ordering.{is_gt}
use Rattle.acc_base.specs.Tables.{place_cmp}
use Rattle.acc_base.proofs.Places.{place_total}
use Rattle.acc_store.specs.Runs.{seen, joined, between}
use Rattle.std.specs.BTreeMap.Range.{range_contains, entries_between}
use Rattle.std.specs.declared.ops.Bound.TheVariants.{Included}
use Rattle.acc_store.proofs.Laid.{between_runs, between_past, le_le, seen_filter}
use Rattle.acc_store.proofs.runs.runs_between.Goals as goal

pub range-requires : goal.range-requires
range-requires c =
    (λ i. is_gt (place_cmp (c.new.ensures.start i).now (c.new.ensures.end i).now)) ∙
    le_le place_total c.in-Some.key c.args.start.now c.args.last.now c.in-Some.ensures.1.from c.requires.forward

pub returns-in-Some : goal.returns-in-Some
returns-in-Some c =
    let rs = c.args.runs.now.entries in
    let a = c.args.start.now in
    let b = c.args.last.now in
    let run = c.in-Some.ensures in
    ap (λ l. between a b (joined (seen l))) (c.range.ensures.between tt ∙
    (λ i. entries_between place_cmp (Included (c.new.ensures.start i).now) (Included (c.new.ensures.end i).now) rs)) ∙
    ap (λ l. between a b (joined l)) (seen_filter (range_contains place_cmp (Included c.in-Some.key) (Included b)) rs) ∙
    between_runs place_total a b c.in-Some.key (seen rs) run.0 c.requires.laid run.1

pub returns-in-None : goal.returns-in-None
returns-in-None c =
    let rs = c.args.runs.now.entries in
    let a = c.args.start.now in
    let b = c.args.last.now in
    ap (λ l. between a b (joined (seen l))) (c.range-in-None.ensures.between tt ∙
    (λ i. entries_between place_cmp (Included (c.new-in-None.ensures.start i).now) (Included (c.new-in-None.ensures.end i).now) rs)) ∙
    ap (λ l. between a b (joined l)) (seen_filter (range_contains place_cmp (Included a) (Included b)) rs) ∙
    between_past place_total a b (seen rs) c.requires.laid c.in-None.ensures
