use Rattle.std.proofs.Common.{◌≡◌, ◌+◌, ◌-◌, ◌∙◌, ℕ, sym, ap, arith}
use Rattle.acc_engine.specs.Keeping.{is_begun}
use Rattle.acc_settling.proofs.Working.{first_are}
use Rattle.acc_settling.proofs.finishing.begun_places.Goals as goal

pub returns-then-not-is_begun-clause-count : goal.returns-then-not-is_begun-clause-count
returns-then-not-is_begun-clause-count g c = λ first.
    let e = c.args.engine.now in
    let at = c.loop-at.at in
    let here : at ≡ at + 1 - 1 = omega arith in
    first_are e first at c.loop-at.invariant
    (ap (λ (p : ℕ). is_begun e.begun p) here ∙ sym c.is_begun.ensures ∙ c.if-not-is_begun.true)
