use Rattle.std.proofs.Common.{map, ◌∙◌, ap}
use Rattle.acc_elim_stages.specs.Stages.{row_form}
use Rattle.acc_elim_stages.proofs.stages.begin.Goals as goal

pub returns-clause-value : goal.returns-clause-value
returns-clause-value c =
    record {
      system = c.in_ok-rows.rows;
      admitted = c.in_ok-rows.ensures;
      stage = λ i. record {
        path = record {
          first = (c.in_ok-first.ensures ∙ ap (map row_form) c.as_slice.ensures) i;
          steps = c.new-steps.ensures i;
        };
        rows = c.in_ok-rows.rows;
        left = c.new.ensures i;
      };
    }
