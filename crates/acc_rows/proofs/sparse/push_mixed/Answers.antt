use Rattle.std.proofs.Common.{ℕ, ℤ, pos, to_z, of_z, arith, refl, ◌∙◌, ap}
use Rattle.std.specs.Int.{w128}
use Rattle.std.proofs.lemmas.Int.{to_z-of_z}
use Rattle.acc_rows.proofs.Chains.{leaves_handed, leaves_along, stopped_along}
use Rattle.acc_rows.proofs.SparseSteps.{on_first, on_second, on_both, stopped_first, stopped_second, stopped_both, second_over}
use Rattle.acc_rows.proofs.SparseSteps.{take_rest}
use Rattle.acc_rows.specs.Answers.{behind}
use Rattle.acc_rows.specs.Sparse.{mixed, scaled}
use Rattle.acc_rows.proofs.sparse.push_mixed.Goals as goal

abbrev none : ℕ × ℤ
none = (0, pos 0)

pub loop-i-preserved-then-x-y : goal.loop-i-preserved-then-x-y
loop-i-preserved-then-x-y c =
    record {
      in_xs = omega arith;
      in_ys = omega arith;
      so_far = on_first _ _ c.args.xs.now c.args.ys.now c.loop-i.i c.loop-i.j none none (omega arith) (omega arith) _ _
          refl refl _ _ c.loop-i.invariant.so_far _ c.if-x-y.true c.in_ok-push_product.ensures;
    }

pub loop-i-preserved-then-y-x : goal.loop-i-preserved-then-y-x
loop-i-preserved-then-y-x c =
    record {
      in_xs = omega arith;
      in_ys = omega arith;
      so_far = on_second _ _ c.args.xs.now c.args.ys.now c.loop-i.i c.loop-i.j none none (omega arith) (omega arith) _ _
          refl refl _ _ c.loop-i.invariant.so_far _ c.if-x-y.false c.if-y-x.true
          c.in_ok-push_product-2.ensures;
    }

pub loop-i-preserved : goal.loop-i-preserved
loop-i-preserved c =
    record {
      in_xs = omega arith;
      in_ys = omega arith;
      so_far = on_both _ _ c.args.xs.now c.args.ys.now c.loop-i.i c.loop-i.j none none (omega arith) (omega arith) _ _ refl
          refl _ _ c.loop-i.invariant.so_far _ c.if-x-y.false c.if-y-x.false c.in_ok-push_mixture.ensures;
    }

pub returns-in_err-push_product : goal.returns-in_err-push_product
returns-in_err-push_product c =
    let p = to_z-of_z w128 c.args.p c.ranges.p in
    let q = to_z-of_z w128 c.args.q c.ranges.q in
    leaves_handed _ _ _ _ c.from_residual.ensures.1
    (stopped_along _ _ _ (λ k. behind c.args.out.now.items (mixed (p k) (q k) c.args.xs.now c.args.ys.now))
    (stopped_first _ _ c.args.xs.now c.args.ys.now c.loop-i.i c.loop-i.j none none (omega arith) (omega arith) _ _ refl
    refl _ _ c.loop-i.invariant.so_far _ c.if-x-y.true c.in_err-push_product.ensures))

pub returns-in_err-push_product-2 : goal.returns-in_err-push_product-2
returns-in_err-push_product-2 c =
    let p = to_z-of_z w128 c.args.p c.ranges.p in
    let q = to_z-of_z w128 c.args.q c.ranges.q in
    leaves_handed _ _ _ _ c.from_residual-in_err-push_product-2.ensures.1
    (stopped_along _ _ _ (λ k. behind c.args.out.now.items (mixed (p k) (q k) c.args.xs.now c.args.ys.now))
    (stopped_second _ _ c.args.xs.now c.args.ys.now c.loop-i.i c.loop-i.j none none (omega arith) (omega arith) _ _
    refl refl _ _ c.loop-i.invariant.so_far _ c.if-x-y.false c.if-y-x.true
    c.in_err-push_product-2.ensures))

pub returns-in_err-push_mixture : goal.returns-in_err-push_mixture
returns-in_err-push_mixture c =
    let p = to_z-of_z w128 c.args.p c.ranges.p in
    let q = to_z-of_z w128 c.args.q c.ranges.q in
    leaves_handed _ _ _ _ c.from_residual-in_err-push_mixture.ensures.1
    (stopped_along _ _ _ (λ k. behind c.args.out.now.items (mixed (p k) (q k) c.args.xs.now c.args.ys.now))
    (stopped_both _ _ c.args.xs.now c.args.ys.now c.loop-i.i c.loop-i.j none none (omega arith) (omega arith) _ _ refl
    refl _ _ c.loop-i.invariant.so_far _ c.if-x-y.false c.if-y-x.false c.in_err-push_mixture.ensures))

pub returns-then-j-ys : goal.returns-then-j-ys
returns-then-j-ys c =
    let p = to_z-of_z w128 c.args.p c.ranges.p in
    let q = to_z-of_z w128 c.args.q c.ranges.q in
    leaves_along _ _ _ _ (ap (λ zs. behind c.loop-i.out.items (scaled (to_z w128 (of_z w128 c.args.p)) zs))
    (take_rest c.loop-i.i c.args.xs.now) ∙ (second_over _ _ c.args.xs.now c.args.ys.now _ c.loop-i.i c.loop-i.j _
    c.loop-i.invariant.so_far c.if-j-ys.true
    ∙ (λ k. behind c.args.out.now.items (mixed (p k) (q k) c.args.xs.now c.args.ys.now)))) c.push_scaled-then-j-ys.ensures
