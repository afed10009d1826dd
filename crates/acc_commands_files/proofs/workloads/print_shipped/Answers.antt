use Rattle.std.proofs.Common.{refl}
use Rattle.acc_commands_inputs.proofs.ReadBack.{text_reads_back}
use Rattle.tpcc_steps.specs.ShippedText.{shipped_bytes, shipped_design}
use Rattle.tpcc_steps.proofs.Reading.{is_text}
use Rattle.acc_commands_files.proofs.workloads.print_shipped.Goals as goal

pub returns-in-Ok : goal.returns-in-Ok
returns-in-Ok c = record {
  says = (refl, c.in-Ok.ensures, refl);
  same = text_reads_back shipped_bytes shipped_design is_text;
}
