use Rattle.std.proofs.Common.{◌∙◌, ap, sym, ◌-◌, ◌+◌}
use Rattle.acc_base.specs.Computing.{chain, steps}
use Rattle.acc_base.specs.Items.{numbers_from}
use Rattle.acc_elim_systems.specs.Systems.{set_aside}
use Rattle.acc_rows.proofs.Chains.{answers_handed, stopped_along, stopped_chain}
use Rattle.acc_elim_systems.proofs.SystemSteps.{numbers_more}
use Rattle.acc_elim_systems.proofs.Apart.{aside_apart}
use Rattle.acc_elim_systems.proofs.systems.set_all_aside.Goals as goal

pub loop-unknown-preserved : goal.loop-unknown-preserved
loop-unknown-preserved c =
    let i = c.loop-unknown.unknown in
    let n = c.args.unknowns in
    record {
      so_far = ap (λ r. chain r (λ s. steps set_aside s (numbers_from (i + 1) (n - (i + 1))))) (sym c.in_ok-set_aside.ensures)
          ∙ (ap (steps set_aside c.loop-unknown.state) (sym (numbers_more i n c.loop-unknown-test.true))
          ∙ c.loop-unknown.invariant.so_far);
      apart = aside_apart c.loop-unknown.state c.set_aside.new.state i c.in_ok-set_aside.ensures c.loop-unknown.invariant.apart;
    }

pub returns-in_err-set_aside : goal.returns-in_err-set_aside
returns-in_err-set_aside c =
    let i = c.loop-unknown.unknown in
    let n = c.args.unknowns in
    let state = c.loop-unknown.state in
    answers_handed _ _ _ c.from_residual.ensures.1
    (stopped_along _ _ _ (ap (steps set_aside state) (sym (numbers_more i n c.loop-unknown-test.true)) ∙ c.loop-unknown.invariant.so_far)
    (stopped_chain _ (set_aside state i) (λ s. steps set_aside s (numbers_from (i + 1) (n - (i + 1)))) c.in_err-set_aside.ensures))
