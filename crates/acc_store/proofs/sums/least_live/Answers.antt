use Rattle.std.proofs.Common.{◌≡◌, rules, ◌∙◌, sym, ap, subst, ◌∷◌, FitsSigned, w64}
use Rattle.std.specs.Int.{int_min}
use Rattle.std.proofs.lemmas.Int.{to_z-of_z}
use Rattle.acc_base.specs.Tables.{best, parts_at, with_part}
use Rattle.acc_store.specs.Rows.{live, IsRising}
use Rattle.acc_store.specs.Runs.{left}
use Rattle.acc_store.proofs.Steps.{parts-with_row, best-first}
use Rattle.acc_store.proofs.sums.least_live.Goals as goal

pub returns-in-Some-part_at : goal.returns-in-Some-part_at
returns-in-Some-part_at c =
    let n = c.args.at in
    let x = c.in-Some-part_at.part in
    let rest = parts_at n (live (left c.next.new.self)) in
    let fits : FitsSigned w64 x = search rules in
    let parts : parts_at n (live (left c.args.entries)) ≡ x ∷ rest =
    c.loop-place.invariant.parts ∙ ap (λ es. parts_at n (live es)) c.in-Some.ensures.left ∙ parts-with_row n c.in-Some.place.now
    c.in-Some.slot.now.cells (live (left c.next.new.self)) ∙ ap (λ p. with_part p rest) (sym c.in-Some-part_at.ensures) in
    to_z-of_z w64 x fits ∙ sym (ap (best int_min) parts ∙ best-first x rest (subst IsRising parts c.requires.rising))
