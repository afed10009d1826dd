use Rattle.std.proofs.Common.{inl, inr, refl, subst, arith}
use Rattle.acc_base.specs.declared.designs.Design.{Design}
use Rattle.acc_commands_inputs.specs.declared.scripts.ReadScript.TheVariants as script
use Rattle.acc_commands_inputs.specs.ReadScripts.{ReadsScript}
use Rattle.acc_commands_journals.specs.RunFiles.{RunsBy, ScriptRuns}
use Rattle.acc_commands_journals.proofs.Disks.{runs_weaker, ends_untouched}
use Rattle.acc_commands_journals.proofs.runs.run_script.Goals as goal

pub run_calls-requires : goal.run_calls-requires
run_calls-requires g c =
    let read : ReadsScript c.args.accepted.now c.args.script.now (script.Read c.in-Ok-Read.asked) =
    subst (λ (d : Design). ReadsScript d c.args.script.now (script.Read c.in-Ok-Read.asked)) c.design.ensures.design
    (subst (ReadsScript c.design.result.now c.args.script.now) c.in-Ok-Read.field-0-is c.in-Ok-Read.ensures) in
    λ lifetimes. ((refl, tt), (read.1, (omega (arith, read.2, c.requires.short), c.requires.ready)))

pub returns-in-Ok-Read : goal.returns-in-Ok-Read
returns-in-Ok-Read g c =
    let disk = g.D.Disk in
    let asked = c.in-Ok-Read.asked in
    let read : ReadsScript c.args.accepted.now c.args.script.now (script.Read asked) =
    subst (λ (d : Design). ReadsScript d c.args.script.now (script.Read asked)) c.design.ensures.design
    (subst (ReadsScript c.design.result.now c.args.script.now) c.in-Ok-Read.field-0-is c.in-Ok-Read.ensures) in
    let runs = RunsBy disk.clock disk.left_since disk.told disk.may_leave c.args.turns in
    runs_weaker (runs c.args.accepted.now asked) (ScriptRuns runs c.args.accepted.now c.args.script.now)
    (λ old new t says. inr (record { calls = asked; is_script = read.0; says = says }))
    (λ runs. record { calls = asked; is_script = read.0; runs = runs }) c.run_calls.ensures

pub returns-in-Ok-Refused : goal.returns-in-Ok-Refused
returns-in-Ok-Refused g c =
    let text = c.args.script.now in
    let read = subst (ReadsScript c.design.result.now text) c.in-Ok-Refused.field-0-is c.in-Ok-Refused.ensures in
    ends_untouched c.unrun.ensures.none c.unrun.ensures.disk c.unrun.ensures.answer
    (inl (refl, refl, subst (λ (d : Design). ReadsScript d text (script.Refused c.in-Ok-Refused.answer)) c.design.ensures.design read))
    (inl (refl, refl, refl))

pub returns-in-Err : goal.returns-in-Err
returns-in-Err g c =
    ends_untouched c.unrun-in-Err.ensures.none c.unrun-in-Err.ensures.disk c.unrun-in-Err.ensures.answer tt (inl (refl, refl, refl))
