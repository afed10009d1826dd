use Rattle.std.proofs.Common.{◌≡◌, rules, ◌∙◌, ◌+◌, sym, ap, subst, suc, ◌∷◌, drop, FitsSigned, w64, List, arith, get_or}
use Rattle.std.specs.Int.{int_min}
use Rattle.std.proofs.Math.Seq.{drop-cons}
use Rattle.std.proofs.lemmas.Int.{to_z-of_z}
use Rattle.acc_base.specs.declared.tables.Row.{Row}
use Rattle.acc_base.specs.Tables.{best, parts_at, with_part}
use Rattle.acc_store.specs.Rows.{IsRising}
use Rattle.acc_store.proofs.Steps.{best-first}
use Rattle.tpcc_tables.proofs.Rising.{next_parts}
use Rattle.tpcc_tables.proofs.amounts.least_part.Goals as goal

pub returns-in-Some : goal.returns-in-Some
returns-in-Some c =
    let n = c.args.at in
    let x = c.in-Some.part in
    let rest = parts_at n (drop (c.loop-row.row-index + 1) c.args.rows.now) in
    let fits : FitsSigned w64 x = search rules in
    let parts : parts_at n c.args.rows.now ≡ x ∷ rest =
    c.loop-row.invariant ∙ next_parts n c.args.rows.now c.loop-row.row-index c.row-item.result c.loop-row-test.true c.row-item.is
    ∙ ap (λ p. with_part p rest) (sym c.in-Some.ensures) in
    to_z-of_z w64 x fits ∙ sym (ap (best int_min) parts ∙ best-first x rest (subst IsRising parts c.requires))

pub loop-row-preserved : goal.loop-row-preserved
loop-row-preserved c =
    let n = c.args.at in
    c.loop-row.invariant ∙ next_parts n c.args.rows.now c.loop-row.row-index c.row-item.result c.loop-row-test.true c.row-item.is
    ∙ ap (λ p. with_part p (parts_at n (drop (c.loop-row.row-index + 1) c.args.rows.now))) (sym c.in_default.ensures)
