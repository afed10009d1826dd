use Rattle.std.proofs.Common.{rules, ◌∙◌, sym, ap, map, ◌≤◌, ◌^◌, subst, FitsSigned, arith, ℕ}
use Rattle.acc_base.specs.declared.tables.Row.{Row}
use Rattle.std.specs.Prelude.{unsigned_abs, filter}
use Rattle.std.specs.List.{sum_by}
use Rattle.std.specs.Int.{w128}
use Rattle.std.proofs.lemmas.Int.{to_z-of_z}
use Rattle.acc_base.specs.Numbers.{total}
use Rattle.acc_base.specs.Tables.{is_under, cell}
use Rattle.acc_store.specs.Rows.{live}
use Rattle.acc_store.proofs.Spans.{live_below}
use Rattle.acc_store.proofs.Unders.{under_sum}
use Rattle.acc_store.proofs.sums.sum_below.Goals as goal

pub sum_live-requires : goal.sum_live-requires
sum_live-requires c =
    let t = c.args.table in
    let p = c.args.prefix.now in
    let es = c.args.entries.now.entries in
    let size : Row → ℕ = λ r. unsigned_abs (cell c.args.col r) in
    let less = under_sum t p size (live es) in
    let whole = c.requires.sums t c.args.col in
    let fits : sum_by size (filter (is_under t p) (live es)) ≤ 2 ^ 120 = omega arith in
    record {
      forward = c.entries_below.ensures.forward;
      fits = subst (λ rows. sum_by size rows ≤ 2 ^ 120)
          (sym (ap live c.entries_below.ensures.below ∙ live_below t p es)) fits;
    }

pub returns : goal.returns
returns c =
    let es = c.args.entries.now.entries in
    let fits : FitsSigned w128 c.sum_live.result = search rules in
    to_z-of_z w128 c.sum_live.result fits ∙ c.sum_live.ensures ∙ ap (λ x. total (map (cell c.args.col) (live x)))
    c.entries_below.ensures.below ∙ ap (λ rows. total (map (cell c.args.col) rows)) (live_below c.args.table c.args.prefix.now es)
