use Rattle.std.proofs.Common.{inl, inr, refl, subst, arith}
use Rattle.acc_io.specs.Causes.{Rose}
use Rattle.acc_print.specs.Designs.{printed}
use Rattle.acc_commands_inputs.proofs.ShortDesigns.{printed_is_short}
use Rattle.acc_wal.specs.Creating.{LeavesNew}
use Rattle.acc_commands_inputs.specs.ReadDesigns.{IsRead, Reads}
use Rattle.acc_commands_journals.specs.InitFiles.{InitsJournal, InitsFile, InitLeaves}
use Rattle.acc_commands_journals.proofs.Disks.{leaves_weaker, leaves_nothing, ends_late, ends_untouched}
use Rattle.acc_commands_journals.proofs.JournalEndings.{making_late}
use Rattle.acc_commands_journals.proofs.journals.init_file.Goals as goal

pub init_journal-requires : goal.init_journal-requires
init_journal-requires g c =
    let read : IsRead c.args.design.now c.in-Ok-Read.d = subst (Reads c.args.design.now) c.in-Ok-Read.field-0-is c.in-Ok-Read.ensures in
    record { short = omega (arith, printed_is_short c.args.design.now c.in-Ok-Read.d read.is_text, c.requires.short) }

pub returns-in-Ok-Read : goal.returns-in-Ok-Read
returns-in-Ok-Read g c =
    let d = c.in-Ok-Read.d in
    let design = c.args.design.now in
    let read : IsRead design d = subst (Reads design) c.in-Ok-Read.field-0-is c.in-Ok-Read.ensures in
    let made = c.init_journal.ensures in
    ends_late (InitsJournal d) (InitsFile design)
    (λ old new t. making_late d old.told new.told (Rose old.faults new.faults) t)
    (λ old new t ends. inr (record { d = d; is_text = read.is_text; formed = read.formed; ends = ends })) made.answer
    (record {
      leaves = leaves_weaker (λ file. LeavesNew file (printed d)) (InitLeaves design)
          (λ file image left. inr (record { d = d; is_text = read.is_text; formed = read.formed; left = left }))
          (record { moments = made.moments; left = made.left });
      none = made.none.0;
      none_settled = made.none.1;
    }) made.calm made.faults

pub returns-in-Ok-Refused : goal.returns-in-Ok-Refused
returns-in-Ok-Refused g c =
    let design = c.args.design.now in
    ends_untouched c.unrun.ensures.none c.unrun.ensures.disk c.unrun.ensures.answer
    (inl (refl, refl, subst (Reads design) c.in-Ok-Refused.field-0-is c.in-Ok-Refused.ensures))
    (record {
      leaves = leaves_nothing (InitLeaves design) (g.met.D.Disk.only_now c.args.disk) (λ file. inl refl);
      none = refl;
      none_settled = refl;
    })

pub returns-in-Err : goal.returns-in-Err
returns-in-Err g c =
    ends_untouched c.unrun-in-Err.ensures.none c.unrun-in-Err.ensures.disk c.unrun-in-Err.ensures.answer tt
    (record {
      leaves = leaves_nothing (InitLeaves c.args.design.now) (g.met.D.Disk.only_now c.args.disk) (λ file. inl refl);
      none = refl;
      none_settled = refl;
    })
