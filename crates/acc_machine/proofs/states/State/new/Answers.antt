use Rattle.std.proofs.Common.{◌≡◌, ◌∙◌, ap, sym, subst}
use Rattle.acc_base.specs.Machine.{unfinished}
use Rattle.acc_plain.specs.Running.{Running}
use Rattle.acc_machine.specs.IndexedStates.{IsIndexOf}
use Rattle.acc_machine.proofs.Keeping.{kept_start}
use Rattle.acc_machine.proofs.states.State.new.Goals as goal

pub invariant_of-result : goal.invariant_of-result
invariant_of-result g c =
    let made : Running = c.reserve.new.self in
    let same : made.design ≡ c.args.accepted.now =
    ap (λ (m : Running). m.design) c.reserve.ensures ∙ (c.new-machine.ensures.design ∙ c.design.ensures.design) in
    record {
      stands = subst (IsIndexOf c.args.accepted.now (unfinished made.world)) (sym c.new-kept.ensures) tt;
      same = sym same;
      kept =
          kept_start c.args.accepted.now made.design made.world c.design.ensures.accepted same
          (ap (λ (m : Running). m.world) c.reserve.ensures ∙ c.new-machine.ensures.start);
    }
