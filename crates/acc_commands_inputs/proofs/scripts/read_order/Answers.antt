use Rattle.std.proofs.Common.{length}
use Rattle.acc_commands_inputs.proofs.SaidLemmas.{places_within}
use Rattle.acc_commands_inputs.proofs.scripts.read_order.Goals as goal

pub returns-in-Ok : goal.returns-in-Ok
returns-in-Ok c = (c.in-Ok.ensures.ok, places_within (length c.args.asked.now) c.args.file.now c.in-Ok.places c.in-Ok.ensures.ok)

pub returns-in_ok-line_refusal-in-Err-Line : goal.returns-in_ok-line_refusal-in-Err-Line
returns-in_ok-line_refusal-in-Err-Line c = record {
  none = c.order.ensures.none c.in-Err-Line.at cc;
  at = c.in-Err-Line.at;
  first = c.order.ensures.line c.in-Err-Line.at cc;
  says = c.in_ok-line_refusal-in-Err-Line.ensures;
}
