use Rattle.std.proofs.Common.{ℕ, ℤ, pos, refl}
use Rattle.std.specs.Int.{w128}
use Rattle.std.proofs.lemmas.Int.{to_z-of_z}
use Rattle.acc_rows.specs.Answers.{behind}
use Rattle.acc_rows.specs.Sparse.{scaled}
use Rattle.acc_rows.proofs.Chains.{leaves_handed, stopped_along}
use Rattle.acc_rows.proofs.SparseSteps.{scaled_on, scaled_stopped}
use Rattle.acc_rows.proofs.sparse.push_scaled.Goals as goal

abbrev none : ℕ × ℤ
none = (0, pos 0)

pub loop-term-preserved : goal.loop-term-preserved
loop-term-preserved c =
    scaled_on _ c.args.numbers.now c.loop-term.term-index none _ c.loop-term-test.true refl c.loop-term.out.items _
    c.loop-term.invariant _ c.in_ok-push_product.ensures

pub returns-in_err-push_product : goal.returns-in_err-push_product
returns-in_err-push_product c =
    let by = to_z-of_z w128 c.args.by c.ranges.by in
    leaves_handed _ _ _ _ c.from_residual.ensures.1
    (stopped_along _ _ _ (λ k. behind c.args.out.now.items (scaled (by k) c.args.numbers.now))
    (scaled_stopped _ c.args.numbers.now c.loop-term.term-index none _ c.loop-term-test.true refl c.loop-term.out.items _
    c.loop-term.invariant _ c.in_err-push_product.ensures))
