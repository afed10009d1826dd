use Rattle.std.proofs.Common.{◌++◌, sym, ◌∙◌, ap}
use Rattle.std.specs.Prelude.{reverse}
use Rattle.acc_elim_stages.specs.Followed.{listed, left_first}
use Rattle.acc_elim_stages.proofs.carrying.carry.Goals as goal

pub returns : goal.returns
returns c =
    let path = c.args.path.now in
    let trail = c.in_ok-notes.field-0 in
    record {
      rest = c.in_ok-rest.rest;
      notes = reverse trail.notes;
      first = ap (λ rows. left_first rows c.args.row) (sym c.as_slice.ensures) ∙ c.in_ok-rest.ensures.value;
      trail = c.in_ok-notes.ensures;
      path = λ i. record {
        first = (c.in_ok-note_path.ensures.first ∙ ap (λ n. path.first ++ listed n.made) c.in_ok-begun.ensures) i;
        steps = c.in_ok-note_path.ensures.steps i;
      };
    }
