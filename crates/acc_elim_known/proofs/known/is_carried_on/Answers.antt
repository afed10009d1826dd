use Rattle.std.proofs.Common.{◌≡◌, ◌+◌, ◌<◌, ◌++◌, ◌∷◌, [], suc, length, take, sym, ◌∙◌, ap, subst, arith, append_assoc, rules}
use Rattle.std.proofs.lemmas.List.{take_all}
use Rattle.std.proofs.Math.Seq.{take-suc}
use Rattle.acc_elim_known.specs.Ends.{IsKnown}
use Rattle.acc_elim_known.proofs.known.is_carried_on.Goals as goal

pub loop-row-preserved : goal.loop-row-preserved
loop-row-preserved c = λ rows n within is.
    let i = c.loop-row.row-index in
    let more = c.args.rows.now in
    let row = c.row-item.result in
    let place : i < length more = omega (arith, c.loop-row-test.true) in
    let next : i + 1 ≡ suc i = omega arith in
    let longer : take (i + 1) more ≡ take i more ++ row ∷ [] =
    ap (λ k. take k more) next ∙ (take-suc more i row place ∙ ap (λ r. take i more ++ r ∷ []) (sym c.row-item.is)) in
    subst (λ rs. IsKnown rs c.args.unknowns c.is_carried.new.known)
    (append_assoc rows (take i more) (row ∷ []) ∙ ap (λ rs. rows ++ rs) (sym longer))
    (c.is_carried.ensures (search rules) (rows ++ take i more) c.args.unknowns (c.loop-row.invariant rows n within is))

pub returns : goal.returns
returns c = λ _ rows n within is.
    subst (λ rs. IsKnown (rows ++ rs) c.args.unknowns c.loop-row.known)
    (take_all c.loop-row.row-index c.args.rows.now (omega (arith, c.loop-row-test.false))) (c.loop-row.invariant rows n within is)
