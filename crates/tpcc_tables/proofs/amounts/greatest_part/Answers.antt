use Rattle.std.proofs.Common.{◌≡◌, rules, ◌∙◌, sym, ap, subst, ◌∷◌, ◌++◌, [], FitsSigned, w64, append-nil, List}
use Rattle.std.specs.Int.{int_max}
use Rattle.std.proofs.lemmas.Int.{to_z-of_z}
use Rattle.acc_base.specs.Tables.{best, parts_at, with_part}
use Rattle.acc_store.specs.Rows.{IsRising}
use Rattle.acc_store.proofs.Steps.{best-last}
use Rattle.tpcc_tables.proofs.Rising.{last_parts}
use Rattle.tpcc_tables.proofs.amounts.greatest_part.Goals as goal

pub returns-in-Some-part_at : goal.returns-in-Some-part_at
returns-in-Some-part_at c =
    let n = c.args.at in
    let x = c.in-Some-part_at.part in
    let front = parts_at n c.in-Some.front.now in
    let fits : FitsSigned w64 x = search rules in
    let parts : parts_at n c.args.rows.now ≡ front ++ x ∷ [] =
    c.loop-row.invariant ∙ ap (parts_at n) c.in-Some.ensures.cases.0 ∙ last_parts n c.in-Some.front.now c.in-Some.row.now
    ∙ ap (λ p. front ++ with_part p []) (sym c.in-Some-part_at.ensures) in
    to_z-of_z w64 x fits ∙ sym (ap (best int_max) parts ∙ best-last front x (subst IsRising parts c.requires))

pub loop-row-preserved : goal.loop-row-preserved
loop-row-preserved c =
    let n = c.args.at in
    let front = parts_at n c.in-Some.front.now in
    c.loop-row.invariant ∙ ap (parts_at n) c.in-Some.ensures.cases.0 ∙ last_parts n c.in-Some.front.now c.in-Some.row.now
    ∙ ap (λ p. front ++ with_part p []) (sym c.in_default-part_at.ensures) ∙ append-nil front
