-- Commands with their files.
use Rattle.std.specs.Prelude.{ℕ, List, [], ◌∷◌}
use Rattle.acc_commands_inputs.specs.declared.words.Command.{Command}
use Rattle.acc_commands_inputs.specs.declared.words.Command.TheVariants as command
use Rattle.acc_commands_inputs.specs.declared.requests.PlayFiles.{PlayFiles}
use Rattle.acc_commands_inputs.specs.declared.requests.CertifiedFiles.{CertifiedFiles}
use Rattle.acc_commands_inputs.specs.declared.requests.ScheduleFiles.{ScheduleFiles}
use Rattle.acc_commands_inputs.specs.declared.requests.WorkerFiles.{WorkerFiles}
use Rattle.acc_commands_inputs.specs.declared.requests.AuditFiles.{AuditFiles}
use Rattle.acc_commands_inputs.specs.declared.requests.FollowFiles.{FollowFiles}
use Rattle.acc_commands_inputs.specs.declared.requests.MigrationFiles.{MigrationFiles}
use Rattle.acc_commands_inputs.specs.declared.requests.Request.{Request}
use Rattle.acc_commands_inputs.specs.declared.requests.Request.TheVariants.{Play, Rehearse, Print, Draw, Check, Prove, Advise, Audit, Follow, Init}
use Rattle.acc_commands_inputs.specs.declared.requests.Request.TheVariants.{Sched, Run, Recover, Dump, Replies, Verify, Migrate}
use Rattle.acc_commands_inputs.specs.declared.requests.Request.TheVariants.{TpccDesign, TpccLoad, TpccMix, BookingDesign, BookingVerify}
use Rattle.acc_commands_inputs.specs.declared.requests.Request.TheVariants.{Bench, Help, Version}

abbrev pub command_in : Request → Command
command_in (Play files) = command.Play
command_in (Rehearse files) = command.Rehearse
command_in (Print design) = command.Print
command_in (Draw design) = command.Draw
command_in (Check files) = command.Check
command_in (Prove design) = command.Prove
command_in (Advise files side) = command.Advise side
command_in (Audit files) = command.Audit
command_in (Follow files size) = command.Follow size
command_in (Init design) = command.Init
command_in (Sched files) = command.Sched
command_in (Run files workers) = command.Run workers
command_in (Recover files) = command.Recover
command_in (Dump files) = command.Dump
command_in (Replies files) = command.Replies
command_in (Verify files) = command.Verify
command_in (Migrate files) = command.Migrate
command_in TpccDesign = command.TpccDesign
command_in BookingDesign = command.BookingDesign
command_in (BookingVerify files) = command.BookingVerify
command_in (TpccLoad scale) = command.TpccLoad scale
command_in (TpccMix mix) = command.TpccMix mix
command_in (Bench files mix) = command.Bench mix
command_in Help = command.Help
command_in Version = command.Version

abbrev pub played_texts : PlayFiles → List (List ℕ)
played_texts files = files.design.now ∷ files.script.now ∷ files.order.now ∷ []

abbrev pub certified_texts : CertifiedFiles → List (List ℕ)
certified_texts files = files.design.now ∷ files.certificate.now ∷ []

abbrev pub audited_texts : AuditFiles → List (List ℕ)
audited_texts files = files.design.now ∷ files.journal.now ∷ []

abbrev pub followed_texts : FollowFiles → List (List ℕ)
followed_texts files = files.design.now ∷ files.certificate.now ∷ files.copy.now ∷ []

abbrev pub migrated_texts : MigrationFiles → List (List ℕ)
migrated_texts files = files.design.now ∷ files.certificate.now ∷ files.old.now ∷ []

abbrev pub scheduled_texts : ScheduleFiles → List (List ℕ)
scheduled_texts files = files.design.now ∷ files.certificate.now ∷ files.script.now ∷ files.order.now ∷ []

abbrev pub worked_texts : WorkerFiles → List (List ℕ)
worked_texts files = files.design.now ∷ files.certificate.now ∷ files.script.now ∷ []

-- the bytes of the files, in the order of the words that name them
abbrev pub texts_in : Request → List (List ℕ)
texts_in (Play files) = played_texts files
texts_in (Rehearse files) = scheduled_texts files
texts_in (Print design) = design.now ∷ []
texts_in (Draw design) = design.now ∷ []
texts_in (Check files) = certified_texts files
texts_in (Prove design) = design.now ∷ []
texts_in (Advise files side) = files.design.now ∷ []
texts_in (Audit files) = audited_texts files
texts_in (Follow files size) = followed_texts files
texts_in (Init design) = design.now ∷ []
texts_in (Sched files) = scheduled_texts files
texts_in (Run files workers) = worked_texts files
texts_in (Recover files) = certified_texts files
texts_in (Dump files) = certified_texts files
texts_in (Replies files) = certified_texts files
texts_in (Verify files) = certified_texts files
texts_in (Migrate files) = migrated_texts files
texts_in TpccDesign = []
texts_in BookingDesign = []
texts_in (BookingVerify files) = certified_texts files
texts_in (TpccLoad scale) = []
texts_in (TpccMix mix) = []
texts_in (Bench files mix) = certified_texts files
texts_in Help = []
texts_in Version = []

-- the words that name points
abbrev pub points_in : Request → List (List ℕ)
points_in (Play files) = []
points_in (Rehearse files) = []
points_in (Print design) = []
points_in (Draw design) = []
points_in (Check files) = []
points_in (Prove design) = []
points_in (Advise files side) = files.held.now ∷ files.step.now ∷ []
points_in (Audit files) = []
points_in (Follow files size) = []
points_in (Init design) = []
points_in (Sched files) = []
points_in (Run files workers) = []
points_in (Recover files) = []
points_in (Dump files) = []
points_in (Replies files) = []
points_in (Verify files) = []
points_in (Migrate files) = []
points_in TpccDesign = []
points_in BookingDesign = []
points_in (BookingVerify files) = []
points_in (TpccLoad scale) = []
points_in (TpccMix mix) = []
points_in (Bench files mix) = []
points_in Help = []
points_in Version = []
