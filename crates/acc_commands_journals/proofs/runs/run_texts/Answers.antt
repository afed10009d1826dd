use Rattle.std.proofs.Common.{inl, inr, refl, subst}
use Rattle.acc_commands_inputs.specs.ReadDesigns.{IsRead, Reads}
use Rattle.acc_commands_journals.specs.RunFiles.{RunsBy, AcceptedRuns, FilesRun}
use Rattle.acc_commands_journals.proofs.Disks.{runs_weaker, ends_untouched}
use Rattle.acc_commands_journals.proofs.runs.run_texts.Goals as goal

pub returns-in-Ok-Read : goal.returns-in-Ok-Read
returns-in-Ok-Read g c =
    let disk = g.D.Disk in
    let files = c.args.files in
    let d = c.in-Ok-Read.d in
    let read : IsRead files.design.now d = subst (Reads files.design.now) c.in-Ok-Read.field-0-is c.in-Ok-Read.ensures in
    let script = c.args.script.now in
    let runs = RunsBy disk.clock disk.left_since disk.told disk.may_leave c.args.turns in
    runs_weaker (AcceptedRuns runs d files.certificate.now script) (FilesRun runs files.design.now files.certificate.now script)
    (λ old new t says. inr (record { d = d; is_text = read.is_text; formed = read.formed; says = says }))
    (λ by. record {
      d = d;
      is_text = read.is_text;
      formed = read.formed;
      accepted = by.accepted;
      calls = by.runs.calls;
      is_script = by.runs.is_script;
      runs = by.runs.runs;
    }) c.run_design.ensures

pub returns-in-Ok-Refused : goal.returns-in-Ok-Refused
returns-in-Ok-Refused g c =
    ends_untouched c.unrun.ensures.none c.unrun.ensures.disk c.unrun.ensures.answer
    (inl (refl, refl, subst (Reads c.args.files.design.now) c.in-Ok-Refused.field-0-is c.in-Ok-Refused.ensures)) (inl (refl, refl, refl))

pub returns-in-Err : goal.returns-in-Err
returns-in-Err g c =
    ends_untouched c.unrun-in-Err.ensures.none c.unrun-in-Err.ensures.disk c.unrun-in-Err.ensures.answer tt (inl (refl, refl, refl))
