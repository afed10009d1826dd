use Rattle.std.proofs.Common.{inr, refl, subst}
use Rattle.acc_commands_inputs.specs.ReadDesigns.{IsRead, Reads}
use Rattle.acc_commands_inputs.proofs.ReadBack.{text_reads_back}
use Rattle.acc_commands_inputs.proofs.ShortDesigns.{printed_is_short}
use Rattle.acc_commands_files.proofs.designs.print_file.Goals as goal

pub returns-in-Ok : goal.returns-in-Ok
returns-in-Ok c =
    let d = c.in-Read.d in
    let read : IsRead c.args.design.now d = subst (Reads c.args.design.now) c.in-Read.is c.in_ok-d.ensures in
    inr (record {
      d = d;
      is_text = read.is_text;
      formed = read.formed;
      says = (refl, c.in-Ok.ensures.value, refl);
      same = text_reads_back c.args.design.now d read.is_text;
      short = printed_is_short c.args.design.now d read.is_text;
    })
