use Rattle.std.proofs.Common.{inl, inr, refl, subst, ⊎_elim}
use Rattle.acc_base.specs.declared.designs.Design.{Design}
use Rattle.acc_io.specs.Causes.{Rose}
use Rattle.acc_journalled.specs.Recoveries.{LeavesRecovery}
use Rattle.tpcc_tables.specs.Schema.{IsSchemaOf}
use Rattle.acc_commands_inputs.specs.Answers.{said_alone}
use Rattle.acc_commands_inputs.specs.Schemas.{RefusesSchema, FindsSchema}
use Rattle.acc_commands_journals.specs.VerifyFiles.{VerifiesSeen, VerifiesSchema}
use Rattle.acc_commands_journals.proofs.Disks.{leaves_nothing, ends_late, ends_untouched}
use Rattle.acc_commands_journals.proofs.JournalEndings.{verifying_late}
use Rattle.acc_commands_journals.proofs.verifications.verify_accepted.Goals as goal

-- the design that is looked through is the accepted one
pub verify_journal-requires : goal.verify_journal-requires
verify_journal-requires g c = record {
  schema =
      subst (λ (d : Design). IsSchemaOf c.in-Ok-Found.tables d) c.design.ensures.design
      (subst (FindsSchema c.design.result.now) c.in-Ok-Found.field-0-is c.in-Ok-Found.ensures);
}

pub returns-in-Ok-Found : goal.returns-in-Ok-Found
returns-in-Ok-Found g c =
    let d = c.args.accepted.now in
    let tables = c.in-Ok-Found.tables in
    let found = c.verify_journal.ensures in
    let schema : IsSchemaOf tables d =
    subst (λ (d : Design). IsSchemaOf tables d) c.design.ensures.design
    (subst (FindsSchema c.design.result.now) c.in-Ok-Found.field-0-is c.in-Ok-Found.ensures) in
    ends_late (VerifiesSeen tables d) (VerifiesSchema d)
    (λ old new t. verifying_late tables d old.told new.told (Rose old.faults new.faults) t)
    (λ old new t ends. inr (record { tables = tables; schema = schema; ends = ends })) found.answer
    (record {
      leaves = record { moments = found.moments; left = found.left };
      tells = ⊎_elim (λ none. inl none)
          (⊎_elim (λ told. inr (inl (record { tables = tables; schema = schema; text = told.0; recovers = told.1 })))
          (λ stops. inr (inr (record { stops = stops; behind = found.behind })))) found.recorded;
    }) found.calm found.faults

pub returns-in-Ok-Refused : goal.returns-in-Ok-Refused
returns-in-Ok-Refused g c =
    let d = c.args.accepted.now in
    ends_untouched c.unrun.ensures.none c.unrun.ensures.disk c.unrun.ensures.answer
    (inl (
      refl,
      refl,
      subst (λ (d : Design). RefusesSchema d (said_alone c.in-Ok-Refused.answer)) c.design.ensures.design
          (subst (FindsSchema c.design.result.now) c.in-Ok-Refused.field-0-is c.in-Ok-Refused.ensures),
    ))
    (record {
      leaves = leaves_nothing (LeavesRecovery d) (g.met.D.Disk.only_now c.args.disk) (λ file. inl refl);
      tells = inl (refl, refl);
    })

pub returns-in-Err : goal.returns-in-Err
returns-in-Err g c =
    ends_untouched c.unrun-in-Err.ensures.none c.unrun-in-Err.ensures.disk c.unrun-in-Err.ensures.answer tt
    (record {
      leaves = leaves_nothing (LeavesRecovery c.args.accepted.now) (g.met.D.Disk.only_now c.args.disk) (λ file. inl refl);
      tells = inl (refl, refl);
    })
