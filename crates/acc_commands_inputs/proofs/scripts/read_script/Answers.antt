use Rattle.acc_commands_inputs.proofs.SaidLemmas.{calls_fit}
use Rattle.acc_commands_inputs.proofs.scripts.read_script.Goals as goal

pub returns-in-Ok : goal.returns-in-Ok
returns-in-Ok c =
    (c.in-Ok.ensures.ok, calls_fit c.args.d.now c.args.file.now c.in-Ok.asked c.in-Ok.ensures.ok, c.in-Ok.ensures.short)

pub returns-in_ok-line_refusal-in-Err-Line : goal.returns-in_ok-line_refusal-in-Err-Line
returns-in_ok-line_refusal-in-Err-Line c = record {
  none = c.calls.ensures.none c.in-Err-Line.at cc;
  at = c.in-Err-Line.at;
  first = c.calls.ensures.line c.in-Err-Line.at cc;
  says = c.in_ok-line_refusal-in-Err-Line.ensures;
}
