use Rattle.std.proofs.Common.{inr, subst}
use Rattle.std.proofs.lemmas.Result.{IfOk-weaker}
use Rattle.acc_commands_inputs.specs.ReadDesigns.{IsRead, Reads}
use Rattle.acc_commands_files.proofs.provings.prove_file.Goals as goal

pub returns-in-Read : goal.returns-in-Read
returns-in-Read g c =
    let d = c.in-Read.d in
    let read : IsRead c.args.design.now d = subst (Reads c.args.design.now) c.in-Read.is c.in_ok-d.ensures in
    IfOk-weaker c.prove_design.result _ _
    (λ a says. inr (record { d = d; is_text = read.is_text; formed = read.formed; says = says })) c.prove_design.ensures
