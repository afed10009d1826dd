-- Which commands go over a recovered journal, which make one and of what, which run leaves a place unbegun, where a condition is found
-- false, what an audit finds, and which copy of a journal isn't followed on.
use Rattle.std.specs.Prelude.{◌≡◌, ◌≢◌, ◌⊎◌, ◌≤◌, ◌&&◌, ℕ, false, List, [], ◌∷◌, length, Some, Result, Ok, Err}
use Rattle.acc_base.specs.declared.bounds.TheConstants.{MOST_EVENTS}
use Rattle.acc_base.specs.declared.designs.Design.{Design}
use Rattle.acc_base.specs.declared.machines.Call.{Call}
use Rattle.acc_base.specs.Machine.{World}
use Rattle.acc_base.specs.Plays.{Play}
use Rattle.acc_commands_files.specs.Auditing.{ending_of}
use Rattle.acc_commands_files.specs.Ends.{Ends}
use Rattle.acc_commands_files.specs.ReplicaError.{ReplicaError}
use Rattle.acc_commands_files.specs.BenchFiles.{SaysBench}
use Rattle.acc_bench.specs.Conditions.{IsLowestFalse}
use Rattle.acc_bench.specs.declared.results.FalseCondition.{FalseCondition}
use Rattle.acc_commands_files.specs.Mix.{Mix}
use Rattle.acc_commands_files.specs.Schedules.{TellsScheduleFrom}
use Rattle.acc_commands_files.specs.Workloads.{load_said, mix_said}
use Rattle.acc_commands_journals.specs.Running.{IsOpening, WorkersLeave}
use Rattle.acc_commands_journals.specs.Command.{Command}
use Rattle.acc_commands_journals.specs.Command.TheVariants as command
use Rattle.acc_formed.specs.WellFormed.{IsWellFormed}
use Rattle.acc_commands_journals.specs.Admissions.{IsAcceptedWith}
use Rattle.acc_commands_journals.specs.Texts.{IsDesignText}
use Rattle.acc_journalled.specs.declared.answers.Ending.TheVariants.{ConditionFalse}
use Rattle.acc_journalled.specs.RecoverError.{RecoverError}
use Rattle.acc_journalled.specs.Refusals.{RefusesRecovery, IsOfBytes}
use Rattle.acc_commands_files.specs.Judging.{Judges}
use Rattle.acc_commands_files.specs.Judgement.{Judgement}
use Rattle.acc_commands_files.specs.JudgeError.{JudgeError}
use Rattle.acc_commands_files.specs.JudgeError.TheVariants.{Memory}
use Rattle.acc_journalled.specs.Conditions.{AreConsistent}
use Rattle.acc_journalled.specs.Verifying.{Verifies}
use Rattle.acc_journalled.specs.Tellings.{Telling}
use Rattle.acc_commands_journals.specs.Disks.{Seen}
use Rattle.acc_commands_journals.specs.Text.{Said, said_in}
use Rattle.acc_script.specs.CallLines.{IsScript}
use Rattle.tpcc_tables.specs.Schema.{IsSchemaOf}
use Rattle.tpcc_tables.specs.declared.tables.TableSet.{TableSet}

-- it recovers a journal
abbrev pub IsRecovering : Command → Type 0
IsRecovering c =
    (c ≡ command.Sched) ⊎ (c ≡ command.Recover) ⊎ (c ≡ command.Dump) ⊎ (c ≡ command.Replies) ⊎ (c ≡ command.Verify)
    ⊎ (c ≡ command.BookingVerify) ⊎ ((workers : ℕ) × (c ≡ command.Run workers))

-- it makes a journal
abbrev pub IsMaking : Command → Type 0
IsMaking c = (c ≡ command.Init) ⊎ (c ≡ command.Migrate)

-- It is `migrate`: its files are a text of this design, which is accepted with the certificate, and a source, from whose bytes nothing is
-- recovered for this cause.
pub record RefusesSource (c : Command) (files : List (List ℕ)) : Type 0 where
  pub is_migrate : c ≡ command.Migrate
  pub design : List ℕ
  pub certificate : List ℕ
  pub source : List ℕ
  pub are_files : files ≡ design ∷ certificate ∷ source ∷ []
  pub d : Design
  pub is_text : IsDesignText design d
  pub accepted : IsAcceptedWith d certificate
  pub error : RecoverError
  pub of_bytes : IsOfBytes error
  pub cause : RefusesRecovery d error (Some source) ⊥

-- a schedule from where the turns begin behind a recovered state is told, and one of its places couldn't begin, since the history is full
pub record LeavesOver (Opens : Design → List Call → World → Play → Type 0) (t : Telling) : Type 0 where
  pub d : Design
  pub calls : List Call
  pub order : List ℕ
  pub first : World
  pub opened : Play
  pub opens : Opens d calls first opened
  pub tells : TellsScheduleFrom d calls opened order t.text t.history false

-- it is `sched`, whose turns begin at the recovered state; or `run`, where they begin behind those of the workers
abbrev pub LeavesBy : Command → Telling → Type 0
LeavesBy c t = ((c ≡ command.Sched) × LeavesOver (λ d. IsOpening) t)
    ⊎ ((workers : ℕ) × (c ≡ command.Run workers) × LeavesOver WorkersLeave t)

-- The journal of a design with TPC-C's tables was recovered, and it is told of each condition whether it is true of the recovered rows: one
-- isn't.
pub record FindsFalse (old new : Seen) (t : Telling) : Type 0 where
  pub d : Design
  pub tables : TableSet
  pub schema : IsSchemaOf tables d
  pub verified : Verifies tables d old.told new.told t
  pub not_all : ¬ AreConsistent tables verified.recovers.last.rows

-- The design has these tables of TPC-C, the scripts of the load and of the mix have these calls over it, and this is said of them.
pub record IsRunOf (m : Mix) (d : Design) (said : Said) : Type 0 where
  pub tables : TableSet
  pub schema : IsSchemaOf tables d
  pub load : List Call
  pub is_load : IsScript d (load_said m.scale) load
  pub calls : List Call
  pub is_mix : IsScript d (mix_said m) calls
  pub says : SaysBench d tables m load calls said

-- it is `bench`, and so
pub record RunsBench (c : Command) (said : Said) : Type 0 where
  pub mix : Mix
  pub is_bench : c ≡ command.Bench mix
  pub d : Design
  pub run : IsRunOf mix d said

-- one of the calls couldn't begin, since the history is full, and each condition is true of the rows at the end
pub record LeavesBench (c : Command) (t : Telling) : Type 0 where
  pub runs : RunsBench c (said_in t)
  pub not_all : (runs.run.says.benched.loaded.all_begun && runs.run.says.benched.mixed.all_begun) ≡ false
  pub full : MOST_EVENTS ≤ length t.history
  pub all_true : AreConsistent runs.run.tables runs.run.says.comes.world.rows

-- this is the lowest of the conditions that are false of the rows at the end
pub record BenchFindsFalse (c : Command) (t : Telling) : Type 0 where
  pub runs : RunsBench c (said_in t)
  pub found : FalseCondition
  pub is_lowest : IsLowestFalse runs.run.tables runs.run.says.comes.world.rows found
  pub not_all : ¬ AreConsistent runs.run.tables runs.run.says.comes.world.rows

-- It is `audit`: its files are a text of this well-formed design and a copy of a journal, of whose bytes this is told.
pub record IsAuditOf (c : Command) (files : List (List ℕ)) (told : Result Judgement JudgeError) : Type 0 where
  pub is_audit : c ≡ command.Audit
  pub design : List ℕ
  pub journal : List ℕ
  pub are_files : files ≡ design ∷ journal ∷ []
  pub d : Design
  pub is_text : IsDesignText design d
  pub formed : IsWellFormed d
  pub judges : Judges d journal told

-- the copy isn't judged, for this cause
pub record RefusesCopy (c : Command) (files : List (List ℕ)) : Type 0 where
  pub error : JudgeError
  pub audit : IsAuditOf c files (Err error)
  pub lasts : error ≢ Memory

-- behind an event a clause is false, or can't be told of
pub record AuditFinds (c : Command) (files : List (List ℕ)) : Type 0 where
  pub judgement : Judgement
  pub audit : IsAuditOf c files (Ok judgement)
  pub wrong : ending_of judgement ≡ ConditionFalse

-- It is `follow`: its files are a text of this well-formed design, which is accepted with the certificate, and a copy of a journal, whose
-- bytes lead to this state, where this refusal comes.
pub record RefusesFollowing (c : Command) (files : List (List ℕ)) : Type 0 where
  pub size : ℕ
  pub is_follow : c ≡ command.Follow size
  pub design : List ℕ
  pub certificate : List ℕ
  pub copy : List ℕ
  pub are_files : files ≡ design ∷ certificate ∷ copy ∷ []
  pub d : Design
  pub is_text : IsDesignText design d
  pub formed : IsWellFormed d
  pub accepted : IsAcceptedWith d certificate
  pub error : ReplicaError
  pub here : World
  pub ends : Ends d copy (Some error) here
