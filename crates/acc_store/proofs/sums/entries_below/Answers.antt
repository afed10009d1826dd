use Rattle.std.proofs.Common.{◌∙◌, ◌-◌, ◌<◌, ◌^◌, length, ap, append-nil, arith}
use Rattle.std.specs.Ordering.{is_gt}
use Rattle.std.specs.BTreeMap.Range.{range_contains}
use Rattle.std.specs.declared.ops.Bound.TheVariants.{Included}
use Rattle.acc_base.specs.Tables.{place_cmp}
use Rattle.acc_store.specs.Runs.{between, joined, seen}
use Rattle.acc_store.proofs.Spans.{span_forward, span_is}
use Rattle.acc_store.proofs.Laid.{length_kept}
use Rattle.acc_store.proofs.sums.entries_below.Goals as goal

pub runs_between-requires-clause-forward : goal.runs_between-requires-clause-forward
runs_between-requires-clause-forward c =
    (λ i. is_gt (place_cmp (c.new-start.ensures.place i) (c.last-last.ensures i))) ∙ span_forward c.args.table c.args.prefix.now
    (6 - length c.args.prefix.now)

pub returns-clause-below : goal.returns-clause-below
returns-clause-below c =
    c.runs_between.ensures ∙ (λ i. between (c.new-start.ensures.place i) (c.last-last.ensures i) (c.runs.ensures.entries i)) ∙
    span_is c.args.table c.args.prefix.now c.args.entries.now.entries c.requires.short c.requires.fit

pub returns-clause-behind : goal.returns-clause-behind
returns-clause-behind c =
    append-nil (between c.new-start.result c.last-last.result (joined (seen c.runs_between.result))) ∙
    c.runs_between.ensures ∙ (λ i. between (c.new-start.ensures.place i) (c.last-last.ensures i) (c.runs.ensures.entries i)) ∙
    span_is c.args.table c.args.prefix.now c.args.entries.now.entries c.requires.short c.requires.fit

pub returns-clause-forward : goal.returns-clause-forward
returns-clause-forward c =
    (λ i. is_gt (place_cmp (c.new-start.ensures.place i) (c.last-last.ensures i))) ∙ span_forward c.args.table c.args.prefix.now
    (6 - length c.args.prefix.now)

pub returns-clause-few : goal.returns-clause-few
returns-clause-few c =
    let es = c.args.entries.now.entries in
    let a = c.new-start.result in
    let b = c.last-last.result in
    let is = ap length (c.runs_between.ensures ∙ ap (between a b) c.runs.ensures.entries) in
    let less = length_kept (λ e. range_contains place_cmp (Included a) (Included b) e.0) es in
    let few = c.runs.ensures.few in
    let all : length (between a b (joined (seen c.runs_between.result))) < 2 ^ 64 = omega arith in
    all
