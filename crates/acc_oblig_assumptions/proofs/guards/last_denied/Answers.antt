use Rattle.std.proofs.Common.{◌≡◌, ◌∙◌}
use Rattle.std.proofs.lemmas.Result.{IfOk-weaker}
use Rattle.acc_oblig.specs.Relations.{denied, last_denied}
use Rattle.acc_oblig_assumptions.proofs.GuardEnds.{last_is}
use Rattle.acc_oblig_assumptions.proofs.guards.last_denied.Goals as goal

pub returns-in-Some : goal.returns-in-Some
returns-in-Some c =
    let item = c.in-Some.ensures.item in
    IfOk-weaker c.denied.result (λ g. g ≡ denied c.args.n.now c.in-Some.last.now) (λ g. g ≡ last_denied c.args.n.now c.args.guard.now)
    (λ g e. e ∙ last_is c.args.n.now c.args.guard.now c.in-Some.last.now item.3.0 item.1) c.denied.ensures
