-- What a command line leaves, in the words of each command.
use Rattle.std.proofs.Common.{◌≡◌, ◌⊎◌, ℕ, List, [], ◌∷◌, length, Option, Some, inl, inr, refl, sym, subst, ◌∙◌, arith}
use Rattle.std.specs.Prelude.{◌≢◌}
use Rattle.std.proofs.lemmas.Option.{same_Some}
use Rattle.acc_base.specs.declared.machines.Event.{Event}
use Rattle.acc_io.specs.Shelves.{Told}
use Rattle.acc_journalled.specs.declared.answers.Wanted.TheVariants as wanted
use Rattle.acc_journalled.specs.Recovering.{text_of}
use Rattle.acc_commands.specs.Command.{Command}
use Rattle.acc_commands.specs.Command.TheVariants as command
use Rattle.acc_commands.specs.Words.{command_of, file_count, files_of}
use Rattle.acc_commands.specs.Files.{AreFiles}
use Rattle.acc_commands.specs.Disks.{LeavesSo}
use Rattle.acc_commands.specs.BookingFiles.{say_seats}
use Rattle.acc_commands.specs.MigrateFiles.{TellsMadeOf}
use Rattle.acc_commands.specs.RecoverFiles.{Saying, TellsDesign, TellsNoneOr, StopsDesign}
use Rattle.acc_commands.specs.VerifyFiles.{TellsVerifiedDesign}
use Rattle.acc_commands.proofs.Disks.{leaves_weaker}
use Rattle.acc_commands.specs.Means.{LeavesOfFile, LeavesOf}
use Rattle.acc_commands.proofs.LeavesFiles.{leaves_untouched, leaves_file}
use Rattle.acc_cli.specs.Leavings.{LeavesLine}
use Rattle.acc_cli.specs.Meant.{LeavesOfLine}
use Rattle.acc_cli.specs.Migrations.{IsMigration}
use Rattle.acc_cli.specs.Recoveries.{wanted_by, IsRecovered, IsBroken, StopsGiven}
use Rattle.acc_cli.specs.Runs.{RunsLine, WorksLine}
use Rattle.acc_cli.specs.Verifications.{IsVerified}

module _ {D : Type 0} (clock : D → ℕ) (left_since : D → ℕ → List ℕ → Type 0) (told : D → Option (List ℕ)) (may_leave : D → List ℕ → Type 0)
    (faults : D → ℕ) (held : List ℕ → Told) (words : List (List ℕ)) (old new : D) (history : List Event) (settled : ℕ) where
  -- this command's files are given, and so it leaves
  abbrev OfCommand : Command → List (List ℕ) → Type 0
  OfCommand c files = (length files ≡ file_count c) × AreFiles held (files_of c words) files
      × LeavesOf clock left_since told may_leave faults c files old new history settled

  -- ---- a crash

  pub leaves_line : ((image : List ℕ) → left_since old (clock old) image → may_leave old image)
      → LeavesLine clock left_since told may_leave faults held words old new history settled
      → LeavesSo clock left_since told may_leave (LeavesOfLine held words) old new
  leaves_line only_now (inl none) =
      leaves_untouched clock left_since told may_leave old new (LeavesOfLine held words) only_now (λ file. inl refl) none.0
  leaves_line only_now (inr g) =
      leaves_weaker (LeavesOfFile g.command g.files) (LeavesOfLine held words)
      (λ file image left.
      inr (record { command = g.command; form = g.form; files = g.files; given = g.given; left = left }))
      (leaves_file clock left_since told may_leave faults g.command g.files old new history settled only_now g.left)

  -- ---- a run

  of_sched : (files : List (List ℕ)) → OfCommand command.Sched files
      → RunsLine clock left_since told may_leave held words old new history settled
  unfolding LeavesOf file_count
  of_sched [] h = absurd (omega (arith, h.0))
  of_sched (design ∷ []) h = absurd (omega (arith, h.0))
  of_sched (design ∷ certificate ∷ []) h = absurd (omega (arith, h.0))
  of_sched (design ∷ certificate ∷ script ∷ []) h = absurd (omega (arith, h.0))
  of_sched (design ∷ certificate ∷ script ∷ order ∷ more ∷ rest) h = absurd (omega (arith, h.0))
  of_sched (design ∷ certificate ∷ script ∷ order ∷ []) (count, given, inl none) = inl none
  of_sched (design ∷ certificate ∷ script ∷ order ∷ []) (count, given, inr run) = inr (record {
    design = design;
    certificate = certificate;
    script = script;
    order = order;
    given = given;
    run = run;
  })

  pub runs_line : command_of words ≡ Some command.Sched → LeavesLine clock left_since told may_leave faults held words old new history settled
      → RunsLine clock left_since told may_leave held words old new history settled
  runs_line is (inl none) = inl none
  runs_line is (inr g) =
      of_sched g.files (subst (λ (c : Command). OfCommand c g.files) (same_Some g.command command.Sched (sym g.form ∙ is))
      (g.count, g.given, g.left))

  of_run : (workers : ℕ) (files : List (List ℕ)) → OfCommand (command.Run workers) files
      → WorksLine clock left_since told may_leave held words workers old new history settled
  unfolding LeavesOf file_count
  of_run workers [] h = absurd (omega (arith, h.0))
  of_run workers (design ∷ []) h = absurd (omega (arith, h.0))
  of_run workers (design ∷ certificate ∷ []) h = absurd (omega (arith, h.0))
  of_run workers (design ∷ certificate ∷ script ∷ more ∷ rest) h = absurd (omega (arith, h.0))
  of_run workers (design ∷ certificate ∷ script ∷ []) (count, given, inl none) = inl none
  of_run workers (design ∷ certificate ∷ script ∷ []) (count, given, inr run) =
      inr (record { design = design; certificate = certificate; script = script; given = given; run = run })

  pub works_line : (workers : ℕ) → command_of words ≡ Some (command.Run workers)
      → LeavesLine clock left_since told may_leave faults held words old new history settled
      → WorksLine clock left_since told may_leave held words workers old new history settled
  works_line workers is (inl none) = inl none
  works_line workers is (inr g) =
      of_run workers g.files (subst (λ (c : Command). OfCommand c g.files) (same_Some g.command (command.Run workers) (sym g.form ∙ is))
      (g.count, g.given, g.left))

  -- ---- a recovery, of which nothing is said

  module _ (out out' : Option (List ℕ)) (code : ℕ) (unsaid : code ≢ 0) where
    abbrev TellsSomehow : Command → Saying → Type 0
    TellsSomehow c w =
        ((history ≡ []) × (settled ≡ 0)) ⊎ IsRecovered held words c w (told old) (told new) out out' code history settled
        ⊎ StopsGiven told may_leave faults held words c old new history settled

    of_design : (c : Command) (w v : Saying) (design certificate : List ℕ) → v ≡ w
        → AreFiles held (files_of c words) (design ∷ certificate ∷ [])
        → TellsNoneOr
        (TellsDesign v design certificate (told old) (told new) history settled
        ⊎ StopsDesign told may_leave faults design certificate old new history settled) history settled → TellsSomehow c w
    of_design c w v design certificate same given (inl none) = inl none
    of_design c w v design certificate same given (inr (inr s)) =
        inr (inr (record { design = design; certificate = certificate; given = given; stops = s }))
    of_design c w v design certificate same given (inr (inl t)) = subst (TellsSomehow c) same (inr (inl (record {
      design = design;
      certificate = certificate;
      given = given;
      d = t.d;
      is_text = t.is_text;
      accepted = t.tells.accepted;
      text = t.tells.text;
      recovers = t.tells.recovers;
      says = λ zero. absurd (unsaid zero);
    })))

    of_recovering : (c : Command) (w : Saying) (files : List (List ℕ)) → wanted_by c ≡ Some w → OfCommand c files → TellsSomehow c w
    unfolding LeavesOf file_count
    of_recovering command.Recover w [] by h = absurd (omega (arith, h.0))
    of_recovering command.Recover w (design ∷ []) by h = absurd (omega (arith, h.0))
    of_recovering command.Recover w (design ∷ certificate ∷ []) by h =
        of_design command.Recover w (text_of wanted.Counts) design certificate (same_Some (text_of wanted.Counts) w by) h.1 h.2.tells
    of_recovering command.Recover w (design ∷ certificate ∷ more ∷ rest) by h = absurd (omega (arith, h.0))
    of_recovering command.Dump w [] by h = absurd (omega (arith, h.0))
    of_recovering command.Dump w (design ∷ []) by h = absurd (omega (arith, h.0))
    of_recovering command.Dump w (design ∷ certificate ∷ []) by h =
        of_design command.Dump w (text_of wanted.Rows) design certificate (same_Some (text_of wanted.Rows) w by) h.1 h.2.tells
    of_recovering command.Dump w (design ∷ certificate ∷ more ∷ rest) by h = absurd (omega (arith, h.0))
    of_recovering command.Replies w [] by h = absurd (omega (arith, h.0))
    of_recovering command.Replies w (design ∷ []) by h = absurd (omega (arith, h.0))
    of_recovering command.Replies w (design ∷ certificate ∷ []) by h =
        of_design command.Replies w (text_of wanted.Replies) design certificate (same_Some (text_of wanted.Replies) w by) h.1 h.2.tells
    of_recovering command.Replies w (design ∷ certificate ∷ more ∷ rest) by h = absurd (omega (arith, h.0))
    of_recovering command.Verify w files by h = absurd cc
    of_recovering command.Migrate w files by h = absurd cc
    of_recovering command.BookingVerify w [] by h = absurd (omega (arith, h.0))
    of_recovering command.BookingVerify w (design ∷ []) by h = absurd (omega (arith, h.0))
    of_recovering command.BookingVerify w (design ∷ certificate ∷ []) by h =
        of_design command.BookingVerify w say_seats design certificate (same_Some say_seats w by) h.1 h.2.tells
    of_recovering command.BookingVerify w (design ∷ certificate ∷ more ∷ rest) by h = absurd (omega (arith, h.0))
    of_recovering (command.Advise side) w files by h = absurd cc
    of_recovering command.Audit w files by h = absurd cc
    of_recovering (command.Follow size) w files by h = absurd cc
    of_recovering command.TpccDesign w files by h = absurd cc
    of_recovering command.BookingDesign w files by h = absurd cc
    of_recovering (command.TpccLoad scale) w files by h = absurd cc
    of_recovering (command.TpccMix mix) w files by h = absurd cc
    of_recovering (command.Bench mix) w files by h = absurd cc
    of_recovering command.Init w files by h = absurd cc
    of_recovering command.Play w files by h = absurd cc
    of_recovering command.Rehearse w files by h = absurd cc
    of_recovering command.Sched w files by h = absurd cc
    of_recovering (command.Run workers) w files by h = absurd cc
    of_recovering command.Print w files by h = absurd cc
    of_recovering command.Draw w files by h = absurd cc
    of_recovering command.Prove w files by h = absurd cc
    of_recovering command.Check w files by h = absurd cc
    of_recovering command.Help w files by h = absurd cc
    of_recovering command.Version w files by h = absurd cc

    pub tells_somehow : (c : Command) (w : Saying) → command_of words ≡ Some c → wanted_by c ≡ Some w
        → LeavesLine clock left_since told may_leave faults held words old new history settled → TellsSomehow c w
    tells_somehow c w is by (inl none) = inl (none.1, none.2)
    tells_somehow c w is by (inr g) =
        of_recovering c w g.files by
        (subst (λ (x : Command). OfCommand x g.files) (same_Some g.command c (sym g.form ∙ is)) (g.count, g.given, g.left))

  -- ---- the same of `verify`

  module _ (out out' : Option (List ℕ)) (code : ℕ) (lacks : IsBroken code) where
    abbrev VerifiedSomehow : Type 0
    VerifiedSomehow = ((history ≡ []) × (settled ≡ 0)) ⊎ IsVerified held words (told old) (told new) out out' code history settled
        ⊎ StopsGiven told may_leave faults held words command.Verify old new history settled

    of_verified : (design certificate : List ℕ) → AreFiles held (files_of command.Verify words) (design ∷ certificate ∷ [])
        → TellsNoneOr
        (TellsVerifiedDesign design certificate (told old) (told new) history settled
        ⊎ StopsDesign told may_leave faults design certificate old new history settled) history settled → VerifiedSomehow
    of_verified design certificate given (inl none) = inl none
    of_verified design certificate given (inr (inr s)) =
        inr (inr (record { design = design; certificate = certificate; given = given; stops = s }))
    of_verified design certificate given (inr (inl t)) = inr (inl (record {
      design = design;
      certificate = certificate;
      given = given;
      d = t.d;
      is_text = t.is_text;
      accepted = t.tells.accepted;
      tables = t.tells.tells.tables;
      schema = t.tells.tells.schema;
      text = t.tells.tells.text;
      recovers = t.tells.tells.recovers;
      says = λ zero. absurd (omega (arith, lacks, zero));
      front = λ ten. absurd (omega (arith, lacks, ten));
      all_true = λ done. absurd (omega (arith, lacks, done));
      one_false = λ ten. absurd (omega (arith, lacks, ten));
    }))

    of_verify : (files : List (List ℕ)) → OfCommand command.Verify files → VerifiedSomehow
    unfolding LeavesOf file_count
    of_verify [] h = absurd (omega (arith, h.0))
    of_verify (design ∷ []) h = absurd (omega (arith, h.0))
    of_verify (design ∷ certificate ∷ []) h = of_verified design certificate h.1 h.2.tells
    of_verify (design ∷ certificate ∷ more ∷ rest) h = absurd (omega (arith, h.0))

    pub verified_somehow : command_of words ≡ Some command.Verify
        → LeavesLine clock left_since told may_leave faults held words old new history settled → VerifiedSomehow
    verified_somehow is (inl none) = inl (none.1, none.2)
    verified_somehow is (inr g) =
        of_verify g.files
        (subst (λ (x : Command). OfCommand x g.files) (same_Some g.command command.Verify (sym g.form ∙ is)) (g.count, g.given, g.left))

  -- ---- the same of `migrate`

  module _ (out out' : Option (List ℕ)) (code : ℕ) (unsaid : code ≢ 0) where
    abbrev MigratedSomehow : Type 0
    MigratedSomehow = ((history ≡ []) × (settled ≡ 0)) ⊎ IsMigration held words (told old) (told new) out out' code history settled

    of_made : (design certificate source : List ℕ)
        → AreFiles held (files_of command.Migrate words) (design ∷ certificate ∷ source ∷ [])
        → TellsNoneOr (TellsMadeOf design certificate source (told old) (told new) history settled) history settled → MigratedSomehow
    of_made design certificate source given (inl none) = inl none
    of_made design certificate source given (inr t) = inr (record {
      design = design;
      certificate = certificate;
      source = source;
      given = given;
      d = t.d;
      is_text = t.is_text;
      accepted = t.tells.accepted;
      text = t.tells.text;
      migrates = t.tells.migrates;
      says = λ zero. absurd (unsaid zero);
    })

    of_migrate : (files : List (List ℕ)) → OfCommand command.Migrate files → MigratedSomehow
    unfolding LeavesOf file_count
    of_migrate [] h = absurd (omega (arith, h.0))
    of_migrate (design ∷ []) h = absurd (omega (arith, h.0))
    of_migrate (design ∷ certificate ∷ []) h = absurd (omega (arith, h.0))
    of_migrate (design ∷ certificate ∷ source ∷ []) h = of_made design certificate source h.1 h.2.tells
    of_migrate (design ∷ certificate ∷ source ∷ more ∷ rest) h = absurd (omega (arith, h.0))

    pub migrated_somehow : command_of words ≡ Some command.Migrate
        → LeavesLine clock left_since told may_leave faults held words old new history settled → MigratedSomehow
    migrated_somehow is (inl none) = inl (none.1, none.2)
    migrated_somehow is (inr g) =
        of_migrate g.files
        (subst (λ (x : Command). OfCommand x g.files) (same_Some g.command command.Migrate (sym g.form ∙ is)) (g.count, g.given, g.left))
