use Rattle.std.proofs.Common.{[], ◌∷◌, refl}
use Rattle.std.proofs.lemmas.Result.{IfErr-weaker}
use Rattle.acc_commands_journals.specs.Command.TheVariants as command
use Rattle.acc_commands_journals.specs.Requests.{played_texts, certified_texts, audited_texts, followed_texts, scheduled_texts}
use Rattle.acc_commands.specs.Means.{MeansOfFiles, MeansOverDisk, LeavesOf}
use Rattle.acc_commands.proofs.InMemory.{ends_alone, ends_run, lacks_run, lacks_none}
use Rattle.acc_commands.proofs.commands.run.Goals as goal

pub returns-in-Play-clause-ends : goal.returns-in-Play-clause-ends
unfolding MeansOfFiles
returns-in-Play-clause-ends g c =
    rw c.in-Play.is
    (ends_run g.D.Disk.clock g.D.Disk.left_since g.D.Disk.told g.D.Disk.may_leave g.D.Disk.faults command.Play [] (played_texts
    c.in-Play.files) refl c.args.disk _ c.ran.ensures.disk c.play_files.result _ _ _ c.ran.ensures.tells c.ran.ensures.settled
    c.play_files.ensures)

pub returns-in-Play-clause-lacking : goal.returns-in-Play-clause-lacking
returns-in-Play-clause-lacking g c without =
    IfErr-weaker c.ran.result.answer _ _ (λ e none. (none, c.ran.ensures.settled))
    (lacks_run c.play_files.result _ _ c.ran.ensures.tells)

pub returns-in-Rehearse-clause-ends : goal.returns-in-Rehearse-clause-ends
unfolding MeansOfFiles
returns-in-Rehearse-clause-ends g c =
    rw c.in-Rehearse.is
    (ends_run g.D.Disk.clock g.D.Disk.left_since g.D.Disk.told g.D.Disk.may_leave g.D.Disk.faults command.Rehearse [] (scheduled_texts
    c.in-Rehearse.files) refl c.args.disk _ c.ran-in-Rehearse.ensures.disk c.schedule_files.result _ _ _ c.ran-in-Rehearse.ensures.tells
    c.ran-in-Rehearse.ensures.settled c.schedule_files.ensures)

pub returns-in-Rehearse-clause-lacking : goal.returns-in-Rehearse-clause-lacking
returns-in-Rehearse-clause-lacking g c without =
    IfErr-weaker c.ran-in-Rehearse.result.answer _ _ (λ e none. (none, c.ran-in-Rehearse.ensures.settled))
    (lacks_run c.schedule_files.result _ _ c.ran-in-Rehearse.ensures.tells)

pub returns-in-Print-clause-ends : goal.returns-in-Print-clause-ends
unfolding MeansOfFiles
returns-in-Print-clause-ends g c =
    rw c.in-Print.is
    (ends_alone g.D.Disk.clock g.D.Disk.left_since g.D.Disk.told g.D.Disk.may_leave g.D.Disk.faults command.Print [] (c.in-Print.design.now ∷
    []) refl c.args.disk _ c.unrun.ensures.disk c.print_file.result _ c.unrun.ensures.answer _ _ c.unrun.ensures.none.0
    c.unrun.ensures.none.1 c.print_file.ensures)

pub returns-in-Print-clause-lacking : goal.returns-in-Print-clause-lacking
returns-in-Print-clause-lacking g c without =
    lacks_none c.unrun.result.answer _ _ c.unrun.ensures.none.0 c.unrun.ensures.none.1

pub returns-in-Draw-clause-ends : goal.returns-in-Draw-clause-ends
unfolding MeansOfFiles
returns-in-Draw-clause-ends g c =
    rw c.in-Draw.is
    (ends_alone g.D.Disk.clock g.D.Disk.left_since g.D.Disk.told g.D.Disk.may_leave g.D.Disk.faults command.Draw [] (c.in-Draw.design.now ∷
    []) refl c.args.disk _ c.unrun-in-Draw.ensures.disk c.draw_file.result _ c.unrun-in-Draw.ensures.answer _ _ c.unrun-in-Draw.ensures.none.0
    c.unrun-in-Draw.ensures.none.1 c.draw_file.ensures)

pub returns-in-Draw-clause-lacking : goal.returns-in-Draw-clause-lacking
returns-in-Draw-clause-lacking g c without =
    lacks_none c.unrun-in-Draw.result.answer _ _ c.unrun-in-Draw.ensures.none.0 c.unrun-in-Draw.ensures.none.1

pub returns-in-Check-clause-ends : goal.returns-in-Check-clause-ends
unfolding MeansOfFiles
returns-in-Check-clause-ends g c =
    rw c.in-Check.is
    (ends_alone g.D.Disk.clock g.D.Disk.left_since g.D.Disk.told g.D.Disk.may_leave g.D.Disk.faults command.Check [] (certified_texts
    c.in-Check.files) refl c.args.disk _ c.unrun-in-Check.ensures.disk c.check_files.result _ c.unrun-in-Check.ensures.answer _ _
    c.unrun-in-Check.ensures.none.0 c.unrun-in-Check.ensures.none.1 c.check_files.ensures)

pub returns-in-Check-clause-lacking : goal.returns-in-Check-clause-lacking
returns-in-Check-clause-lacking g c without =
    lacks_none c.unrun-in-Check.result.answer _ _ c.unrun-in-Check.ensures.none.0 c.unrun-in-Check.ensures.none.1

pub returns-in-Prove-clause-ends : goal.returns-in-Prove-clause-ends
unfolding MeansOfFiles
returns-in-Prove-clause-ends g c =
    rw c.in-Prove.is
    (ends_alone g.D.Disk.clock g.D.Disk.left_since g.D.Disk.told g.D.Disk.may_leave g.D.Disk.faults command.Prove [] (c.in-Prove.design.now ∷
    []) refl c.args.disk _ c.unrun-in-Prove.ensures.disk c.prove_file.result _ c.unrun-in-Prove.ensures.answer _ _
    c.unrun-in-Prove.ensures.none.0 c.unrun-in-Prove.ensures.none.1 c.prove_file.ensures)

pub returns-in-Prove-clause-lacking : goal.returns-in-Prove-clause-lacking
returns-in-Prove-clause-lacking g c without =
    lacks_none c.unrun-in-Prove.result.answer _ _ c.unrun-in-Prove.ensures.none.0 c.unrun-in-Prove.ensures.none.1

pub returns-in-Help-clause-ends : goal.returns-in-Help-clause-ends
unfolding MeansOfFiles
returns-in-Help-clause-ends g c =
    rw c.in-Help.is
    (ends_alone g.D.Disk.clock g.D.Disk.left_since g.D.Disk.told g.D.Disk.may_leave g.D.Disk.faults command.Help [] [] refl c.args.disk _
    c.unrun-in-Help.ensures.disk c.help.result _ c.unrun-in-Help.ensures.answer _ _ c.unrun-in-Help.ensures.none.0
    c.unrun-in-Help.ensures.none.1 c.help.ensures)

pub returns-in-Help-clause-lacking : goal.returns-in-Help-clause-lacking
returns-in-Help-clause-lacking g c without =
    lacks_none c.unrun-in-Help.result.answer _ _ c.unrun-in-Help.ensures.none.0 c.unrun-in-Help.ensures.none.1

pub returns-in-Version-clause-ends : goal.returns-in-Version-clause-ends
unfolding MeansOfFiles
returns-in-Version-clause-ends g c =
    rw c.in-Version.is
    (ends_alone g.D.Disk.clock g.D.Disk.left_since g.D.Disk.told g.D.Disk.may_leave g.D.Disk.faults command.Version [] [] refl c.args.disk _
    c.unrun-in-Version.ensures.disk c.version.result _ c.unrun-in-Version.ensures.answer _ _ c.unrun-in-Version.ensures.none.0
    c.unrun-in-Version.ensures.none.1 c.version.ensures)

pub returns-in-Version-clause-lacking : goal.returns-in-Version-clause-lacking
returns-in-Version-clause-lacking g c without =
    lacks_none c.unrun-in-Version.result.answer _ _ c.unrun-in-Version.ensures.none.0 c.unrun-in-Version.ensures.none.1

pub returns-in-Advise-clause-ends : goal.returns-in-Advise-clause-ends
unfolding MeansOfFiles
returns-in-Advise-clause-ends g c =
    let files = c.in-Advise.files in
    rw c.in-Advise.is
    (ends_alone g.D.Disk.clock g.D.Disk.left_since g.D.Disk.told g.D.Disk.may_leave g.D.Disk.faults (command.Advise c.in-Advise.side)
    (files.held.now ∷ files.step.now ∷ []) (files.design.now ∷ []) refl c.args.disk _ c.unrun-in-Advise.ensures.disk c.advise_file.result _
    c.unrun-in-Advise.ensures.answer _ _ c.unrun-in-Advise.ensures.none.0 c.unrun-in-Advise.ensures.none.1 c.advise_file.ensures)

pub returns-in-Advise-clause-lacking : goal.returns-in-Advise-clause-lacking
returns-in-Advise-clause-lacking g c without =
    lacks_none c.unrun-in-Advise.result.answer _ _ c.unrun-in-Advise.ensures.none.0 c.unrun-in-Advise.ensures.none.1

pub returns-in-Audit-clause-ends : goal.returns-in-Audit-clause-ends
unfolding MeansOfFiles
returns-in-Audit-clause-ends g c =
    rw c.in-Audit.is
    (ends_alone g.D.Disk.clock g.D.Disk.left_since g.D.Disk.told g.D.Disk.may_leave g.D.Disk.faults command.Audit [] (audited_texts
    c.in-Audit.files) refl c.args.disk _ c.unrun-in-Audit.ensures.disk c.audit_files.result _ c.unrun-in-Audit.ensures.answer _ _
    c.unrun-in-Audit.ensures.none.0 c.unrun-in-Audit.ensures.none.1 c.audit_files.ensures)

pub returns-in-Audit-clause-lacking : goal.returns-in-Audit-clause-lacking
returns-in-Audit-clause-lacking g c without =
    lacks_none c.unrun-in-Audit.result.answer _ _ c.unrun-in-Audit.ensures.none.0 c.unrun-in-Audit.ensures.none.1

pub returns-in-Follow-clause-ends : goal.returns-in-Follow-clause-ends
unfolding MeansOfFiles
returns-in-Follow-clause-ends g c =
    rw c.in-Follow.is
    (ends_alone g.D.Disk.clock g.D.Disk.left_since g.D.Disk.told g.D.Disk.may_leave g.D.Disk.faults (command.Follow c.in-Follow.size) []
    (followed_texts c.in-Follow.files) refl c.args.disk _ c.unrun-in-Follow.ensures.disk c.follow_files.result _
    c.unrun-in-Follow.ensures.answer _ _ c.unrun-in-Follow.ensures.none.0 c.unrun-in-Follow.ensures.none.1 c.follow_files.ensures)

pub returns-in-Follow-clause-lacking : goal.returns-in-Follow-clause-lacking
returns-in-Follow-clause-lacking g c without =
    lacks_none c.unrun-in-Follow.result.answer _ _ c.unrun-in-Follow.ensures.none.0 c.unrun-in-Follow.ensures.none.1

pub returns-in-Init-clause-ends : goal.returns-in-Init-clause-ends
unfolding MeansOverDisk LeavesOf
returns-in-Init-clause-ends g c = rw c.in-Init.is c.init_file.ensures

pub returns-in-Sched-clause-ends : goal.returns-in-Sched-clause-ends
unfolding MeansOverDisk LeavesOf
returns-in-Sched-clause-ends g c = rw c.in-Sched.is c.run_files.ensures

pub returns-in-Run-clause-ends : goal.returns-in-Run-clause-ends
unfolding MeansOverDisk LeavesOf
returns-in-Run-clause-ends g c = rw c.in-Run.is c.work_files.ensures

pub returns-in-Recover-clause-ends : goal.returns-in-Recover-clause-ends
unfolding MeansOverDisk LeavesOf
returns-in-Recover-clause-ends g c = rw c.in-Recover.is c.recover_files.ensures

pub returns-in-Dump-clause-ends : goal.returns-in-Dump-clause-ends
unfolding MeansOverDisk LeavesOf
returns-in-Dump-clause-ends g c = rw c.in-Dump.is c.recover_files-in-Dump.ensures

pub returns-in-Replies-clause-ends : goal.returns-in-Replies-clause-ends
unfolding MeansOverDisk LeavesOf
returns-in-Replies-clause-ends g c = rw c.in-Replies.is c.recover_files-in-Replies.ensures

pub returns-in-Verify-clause-ends : goal.returns-in-Verify-clause-ends
unfolding MeansOverDisk LeavesOf
returns-in-Verify-clause-ends g c = rw c.in-Verify.is c.verify_files.ensures

pub returns-in-Migrate-clause-ends : goal.returns-in-Migrate-clause-ends
unfolding MeansOverDisk LeavesOf
returns-in-Migrate-clause-ends g c = rw c.in-Migrate.is c.migrate_files.ensures

pub returns-in-BookingVerify-clause-ends : goal.returns-in-BookingVerify-clause-ends
unfolding MeansOverDisk LeavesOf
returns-in-BookingVerify-clause-ends g c = rw c.in-BookingVerify.is c.book_files.ensures

pub returns-in-TpccDesign-clause-ends : goal.returns-in-TpccDesign-clause-ends
unfolding MeansOfFiles
returns-in-TpccDesign-clause-ends g c =
    rw c.in-TpccDesign.is
    (ends_alone g.D.Disk.clock g.D.Disk.left_since g.D.Disk.told g.D.Disk.may_leave g.D.Disk.faults command.TpccDesign [] [] refl c.args.disk _
    c.unrun-in-TpccDesign.ensures.disk c.print_shipped.result _ c.unrun-in-TpccDesign.ensures.answer _ _
    c.unrun-in-TpccDesign.ensures.none.0 c.unrun-in-TpccDesign.ensures.none.1 c.print_shipped.ensures)

pub returns-in-TpccDesign-clause-lacking : goal.returns-in-TpccDesign-clause-lacking
returns-in-TpccDesign-clause-lacking g c without =
    lacks_none c.unrun-in-TpccDesign.result.answer _ _ c.unrun-in-TpccDesign.ensures.none.0 c.unrun-in-TpccDesign.ensures.none.1

pub returns-in-BookingDesign-clause-ends : goal.returns-in-BookingDesign-clause-ends
unfolding MeansOfFiles
returns-in-BookingDesign-clause-ends g c =
    rw c.in-BookingDesign.is
    (ends_alone g.D.Disk.clock g.D.Disk.left_since g.D.Disk.told g.D.Disk.may_leave g.D.Disk.faults command.BookingDesign [] [] refl c.args.disk _
    c.unrun-in-BookingDesign.ensures.disk c.print_booking.result _ c.unrun-in-BookingDesign.ensures.answer _ _
    c.unrun-in-BookingDesign.ensures.none.0 c.unrun-in-BookingDesign.ensures.none.1 c.print_booking.ensures)

pub returns-in-BookingDesign-clause-lacking : goal.returns-in-BookingDesign-clause-lacking
returns-in-BookingDesign-clause-lacking g c without =
    lacks_none c.unrun-in-BookingDesign.result.answer _ _ c.unrun-in-BookingDesign.ensures.none.0 c.unrun-in-BookingDesign.ensures.none.1

pub returns-in-TpccLoad-clause-ends : goal.returns-in-TpccLoad-clause-ends
unfolding MeansOfFiles
returns-in-TpccLoad-clause-ends g c =
    rw c.in-TpccLoad.is
    (ends_alone g.D.Disk.clock g.D.Disk.left_since g.D.Disk.told g.D.Disk.may_leave g.D.Disk.faults (command.TpccLoad c.in-TpccLoad.scale) [] []
    refl c.args.disk _ c.unrun-in-TpccLoad.ensures.disk c.print_load.result _ c.unrun-in-TpccLoad.ensures.answer _ _
    c.unrun-in-TpccLoad.ensures.none.0 c.unrun-in-TpccLoad.ensures.none.1 c.print_load.ensures)

pub returns-in-TpccLoad-clause-lacking : goal.returns-in-TpccLoad-clause-lacking
returns-in-TpccLoad-clause-lacking g c without =
    lacks_none c.unrun-in-TpccLoad.result.answer _ _ c.unrun-in-TpccLoad.ensures.none.0 c.unrun-in-TpccLoad.ensures.none.1

pub returns-in-TpccMix-clause-ends : goal.returns-in-TpccMix-clause-ends
unfolding MeansOfFiles
returns-in-TpccMix-clause-ends g c =
    rw c.in-TpccMix.is
    (ends_alone g.D.Disk.clock g.D.Disk.left_since g.D.Disk.told g.D.Disk.may_leave g.D.Disk.faults (command.TpccMix c.in-TpccMix.mix) [] []
    refl c.args.disk _ c.unrun-in-TpccMix.ensures.disk c.print_mix.result _ c.unrun-in-TpccMix.ensures.answer _ _
    c.unrun-in-TpccMix.ensures.none.0 c.unrun-in-TpccMix.ensures.none.1 c.print_mix.ensures)

pub returns-in-TpccMix-clause-lacking : goal.returns-in-TpccMix-clause-lacking
returns-in-TpccMix-clause-lacking g c without =
    lacks_none c.unrun-in-TpccMix.result.answer _ _ c.unrun-in-TpccMix.ensures.none.0 c.unrun-in-TpccMix.ensures.none.1

pub returns-in-Bench-clause-ends : goal.returns-in-Bench-clause-ends
unfolding MeansOfFiles
returns-in-Bench-clause-ends g c =
    rw c.in-Bench.is
    (ends_run g.D.Disk.clock g.D.Disk.left_since g.D.Disk.told g.D.Disk.may_leave g.D.Disk.faults (command.Bench c.in-Bench.mix) []
    (certified_texts c.in-Bench.files) refl c.args.disk _ c.ran-in-Bench.ensures.disk c.bench_files.result _ _ _
    c.ran-in-Bench.ensures.tells c.ran-in-Bench.ensures.settled c.bench_files.ensures)

pub returns-in-Bench-clause-lacking : goal.returns-in-Bench-clause-lacking
returns-in-Bench-clause-lacking g c without =
    IfErr-weaker c.ran-in-Bench.result.answer _ _ (λ e none. (none, c.ran-in-Bench.ensures.settled))
    (lacks_run c.bench_files.result _ _ c.ran-in-Bench.ensures.tells)
