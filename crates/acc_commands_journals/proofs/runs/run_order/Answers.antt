use Rattle.std.proofs.Common.{List, inl, inr, length, refl, sym, subst}
use Rattle.std.specs.Prelude.{All}
use Rattle.acc_io.specs.Causes.{Rose}
use Rattle.acc_base.specs.declared.machines.Call.{Call}
use Rattle.acc_script.specs.OrderLines.{IsPlace, IsOrder}
use Rattle.acc_commands_inputs.specs.declared.scripts.ReadOrder.TheVariants as order
use Rattle.acc_commands_inputs.specs.ReadScripts.{ReadsOrder}
use Rattle.acc_commands_journals.specs.RunFiles.{RunsSeen, RunsOfOrder}
use Rattle.acc_commands_journals.proofs.Disks.{ends_late, ends_untouched}
use Rattle.acc_commands_journals.proofs.JournalEndings.{seen_late}
use Rattle.acc_commands_journals.proofs.runs.run_order.Goals as goal

pub schedule_journal-requires-clause-places : goal.schedule_journal-requires-clause-places
schedule_journal-requires-clause-places g c =
    let asked = c.args.asked in
    let read : ReadsOrder asked c.args.file.now (order.Read c.in-Ok-Read.places) =
    subst (λ (calls : List Call). ReadsOrder calls c.args.file.now (order.Read c.in-Ok-Read.places)) c.as_slice-calls.ensures
    (subst (ReadsOrder c.as_slice-calls.result.now c.args.file.now) c.in-Ok-Read.field-0-is c.in-Ok-Read.ensures) in
    subst (All (IsPlace (length asked))) (sym c.as_slice-order.ensures) read.1

pub returns-in-Ok-Read : goal.returns-in-Ok-Read
returns-in-Ok-Read g c =
    let d = c.args.accepted.now in
    let asked = c.args.asked in
    let numbers = c.as_slice-order.result.now in
    let read : ReadsOrder asked c.args.file.now (order.Read c.in-Ok-Read.places) =
    subst (λ (calls : List Call). ReadsOrder calls c.args.file.now (order.Read c.in-Ok-Read.places)) c.as_slice-calls.ensures
    (subst (ReadsOrder c.as_slice-calls.result.now c.args.file.now) c.in-Ok-Read.field-0-is c.in-Ok-Read.ensures) in
    let is_order = subst (IsOrder (length asked) c.args.file.now) (sym c.as_slice-order.ensures) read.0 in
    let run = c.schedule_journal.ensures in
    ends_late (RunsSeen d asked numbers) (RunsOfOrder c.args.file.now d asked)
    (λ old new t. seen_late d asked numbers old.told new.told (Rose old.faults new.faults) t)
    (λ old new t ends. inr (record { numbers = numbers; is_order = is_order; ends = ends })) run.answer
    (inr (record { numbers = numbers; is_order = is_order; runs = run.runs })) run.calm run.faults

pub returns-in-Ok-Refused : goal.returns-in-Ok-Refused
returns-in-Ok-Refused g c =
    let file = c.args.file.now in
    let read = subst (ReadsOrder c.as_slice-calls.result.now file) c.in-Ok-Refused.field-0-is c.in-Ok-Refused.ensures in
    ends_untouched c.unrun.ensures.none c.unrun.ensures.disk c.unrun.ensures.answer
    (inl (
      refl,
      refl,
      subst (λ (calls : List Call). ReadsOrder calls file (order.Refused c.in-Ok-Refused.answer)) c.as_slice-calls.ensures
          read,
    )) (inl (refl, refl, refl))

pub returns-in-Err : goal.returns-in-Err
returns-in-Err g c =
    ends_untouched c.unrun-in-Err.ensures.none c.unrun-in-Err.ensures.disk c.unrun-in-Err.ensures.answer tt (inl (refl, refl, refl))
