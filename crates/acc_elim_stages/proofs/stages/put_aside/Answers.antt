use Rattle.std.proofs.Common.{◌++◌, ◌∷◌, [], ◌∙◌, ap}
use Rattle.acc_elim_stages.proofs.stages.put_aside.Goals as goal

pub returns-clause-value : goal.returns-clause-value
returns-clause-value c =
    let stage = c.args.stage.now in
    let system = c.in_ok-rows.field-0 in
    let pushed = c.in_ok-push.ensures.ok
    ∙ ap (λ n. stage.path.steps ++ (record { aside = (c.args.unknown, c.args.equation); made = system.made; count = n }) ∷ [])
    c.len-count.ensures in
    record {
      system = system;
      rows = c.in_ok-rows.ensures.value;
      tells = c.in_ok-rows.ensures.told;
      stage = λ i. record {
        path = record { first = stage.path.first; steps = pushed i };
        rows = system.rows;
        left = stage.left;
      };
    }
