use Rattle.std.proofs.Common.{◌≡◌, rules, arith, ap, sym, ◌∙◌, Some, None, ℤ, refl}
use Rattle.std.specs.Prelude.{FitsSigned, position}
use Rattle.std.specs.Int.{w64, w128}
use Rattle.std.proofs.lemmas.Int.{ints, to_z-of_z}
use Rattle.acc_instanced.specs.Coefficients.{is_long}
use Rattle.acc_instances.proofs.CoefficientSteps.{at, set_found, enlarged_found, push_new, enlarged_new}
use Rattle.acc_base.proofs.HandedOn.{handed_on}
use Rattle.acc_instances.proofs.coefficients.add_coefficient.Goals as goal

pub returns-in_ok-term-in-Some-clause-value : goal.returns-in_ok-term-in-Some-clause-value
returns-in_ok-term-in-Some-clause-value c =
    let term = c.index_mut-term.result.now in
    let items = c.args.sums.now.items in
    let found : position (at c.args.variable) items ≡ Some c.in-Some.i =
    ap (position (at c.args.variable)) (sym c.as_slice.ensures.value) ∙ sym c.in-Some.ensures.value in
    let fits : FitsSigned w64 term.1 = search rules in
    let coefficient = to_z-of_z w64 term.1 fits in
    let number = to_z-of_z w128 c.args.n c.ranges.n in
    let sum_fits : FitsSigned w64 c.in_ok-term-in-Some.field-0 = search rules in
    let sum = to_z-of_z w64 c.in_ok-term-in-Some.field-0 sum_fits in
    set_found (c.args.variable, c.args.n) term items c.in-Some.i _ found c.index_mut-term.ensures.value
    (omega (arith, ints, c.in_ok-term-in-Some.ensures.value))

pub returns-in_ok-term-in-Some-clause-wide : goal.returns-in_ok-term-in-Some-clause-wide
returns-in_ok-term-in-Some-clause-wide c =
    let term = c.index_mut-term.result.now in
    let items = c.args.sums.now.items in
    let found : position (at c.args.variable) items ≡ Some c.in-Some.i =
    ap (position (at c.args.variable)) (sym c.as_slice.ensures.value) ∙ sym c.in-Some.ensures.value in
    let fits : FitsSigned w64 term.1 = search rules in
    let same = enlarged_found (c.args.variable, c.args.n) term items c.in-Some.i _ _ found c.index_mut-term.ensures.value
    (to_z-of_z w64 term.1 fits) (to_z-of_z w128 c.args.n c.ranges.n) in
    ap is_long same ∙ c.in_ok-term-in-Some.ensures.wide

pub returns-in_err-term-in-Some-clause-wide : goal.returns-in_err-term-in-Some-clause-wide
returns-in_err-term-in-Some-clause-wide c =
    let term = c.index_mut-term.result.now in
    let items = c.args.sums.now.items in
    let found : position (at c.args.variable) items ≡ Some c.in-Some.i =
    ap (position (at c.args.variable)) (sym c.as_slice.ensures.value) ∙ sym c.in-Some.ensures.value in
    let fits : FitsSigned w64 term.1 = search rules in
    let same = enlarged_found (c.args.variable, c.args.n) term items c.in-Some.i _ _ found c.index_mut-term.ensures.value
    (to_z-of_z w64 term.1 fits) (to_z-of_z w128 c.args.n c.ranges.n) in
    handed_on _ ℤ _ _ _ _ c.from_residual.ensures.1 (λ h. ap is_long same ∙ h) c.in_err-term-in-Some.ensures.wide

pub returns-in_ok-push-in-None-clause-value : goal.returns-in_ok-push-in-None-clause-value
returns-in_ok-push-in-None-clause-value c =
    let items = c.args.sums.now.items in
    let new : position (at c.args.variable) items ≡ None =
    ap (position (at c.args.variable)) (sym c.as_slice.ensures.value) ∙ sym c.in-None.ensures.value in
    let fits : FitsSigned w64 c.in_ok-coefficient-in-None.coefficient = search rules in
    let coefficient = to_z-of_z w64 c.in_ok-coefficient-in-None.coefficient fits in
    let number = to_z-of_z w128 c.args.n c.ranges.n in
    push_new (c.args.variable, c.args.n) c.push.new.self.items items _ _ c.in_ok-push-in-None.ensures.items new refl
    (coefficient ∙ (c.in_ok-coefficient-in-None.ensures.value ∙ number))

pub returns-in_ok-push-in-None-clause-wide : goal.returns-in_ok-push-in-None-clause-wide
returns-in_ok-push-in-None-clause-wide c =
    let items = c.args.sums.now.items in
    let new : position (at c.args.variable) items ≡ None =
    ap (position (at c.args.variable)) (sym c.as_slice.ensures.value) ∙ sym c.in-None.ensures.value in
    let number = to_z-of_z w128 c.args.n c.ranges.n in
    ap is_long (enlarged_new (c.args.variable, c.args.n) items _ new number) ∙ c.in_ok-coefficient-in-None.ensures.wide

pub returns-in_err-coefficient-in-None-clause-wide : goal.returns-in_err-coefficient-in-None-clause-wide
returns-in_err-coefficient-in-None-clause-wide c =
    let items = c.args.sums.now.items in
    let new : position (at c.args.variable) items ≡ None =
    ap (position (at c.args.variable)) (sym c.as_slice.ensures.value) ∙ sym c.in-None.ensures.value in
    let number = to_z-of_z w128 c.args.n c.ranges.n in
    handed_on _ ℤ _ _ _ _ c.from_residual-in_err-coefficient-in-None.ensures.1
    (λ h. ap is_long (enlarged_new (c.args.variable, c.args.n) items _ new number) ∙ h) c.in_err-coefficient-in-None.ensures.wide
