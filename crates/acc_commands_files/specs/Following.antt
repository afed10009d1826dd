-- The command follow: a journal's bytes are followed for a design that is accepted with its certificate, as far as their batches came
-- whole.
use Rattle.std.specs.Prelude.{◌≡◌, ◌⊎◌, ◌++◌, ℕ, List, [], length, Option, Some, None, codes}
use Rattle.std.specs.Fmt.{decimal}
use Rattle.acc_base.specs.Annotated.{IsAnnotated, IsIdle}
use Rattle.acc_base.specs.Lines.{line}
use Rattle.acc_base.specs.Machine.{World, world, unfinished}
use Rattle.acc_base.specs.declared.designs.Design.{Design}
use Rattle.acc_base.specs.declared.tables.Row.{Row}
use Rattle.acc_dump.specs.Dumps.{dump_text}
use Rattle.acc_formed.specs.WellFormed.{IsWellFormed}
use Rattle.acc_commands_inputs.specs.Admissions.{IsAcceptedWith}
use Rattle.acc_commands_inputs.specs.Refusals.{RefusesDesign, RefusesCertificate}
use Rattle.acc_commands_inputs.specs.Text.{Said, Says}
use Rattle.acc_commands_inputs.specs.Texts.{IsDesignText}
use Rattle.acc_journalled.specs.declared.answers.Ending.TheVariants.{Done, JournalRefused}
use Rattle.acc_journalled.specs.Recovering.{SaysNotRecovered}
use Rattle.acc_recover.specs.declared.errors.RecoverError.TheVariants as unrecovered
use Rattle.acc_replica.specs.Ends.{Ends}
use Rattle.acc_replica.specs.declared.errors.ReplicaError.{ReplicaError}
use Rattle.acc_replica.specs.declared.errors.ReplicaError.TheVariants.{NotJournal, OtherVersion, OtherDesign, Damaged, Past, Unlawful}
use Rattle.acc_replica.specs.declared.errors.ReplicaError.TheVariants.{Differs, Memory}
use Rattle.acc_wal.specs.declared.errors.WalError.TheVariants as wal
use Rattle.acc_commands_files.specs.Auditing.{telling_alone}

-- how many events are done, and how many transactions are unfinished behind them
abbrev pub counts_text : ℕ → ℕ → List ℕ
counts_text events unended = line (codes "events " ++ (decimal events ++ (codes " unfinished " ++ decimal unended)))

-- and the rows, a line each
abbrev pub state_text : Design → ℕ → ℕ → List Row → List ℕ
state_text d events unended rows = counts_text events unended ++ dump_text d rows

abbrev pub followed_text : Design → World → List ℕ
followed_text d w = state_text d (length w.events) (length (unfinished w)) w.rows

-- a byte stands behind the gate at that place, which isn't open
abbrev pub SaysPast : ℕ → Said → Type 0
SaysPast place said = Says JournalRefused (line (codes "refused journal past " ++ decimal place)) said

-- the same as of a journal that isn't recovered for such a cause; want of memory says nothing
abbrev pub SaysUnfollowed : ReplicaError → Said → Type 0
SaysUnfollowed NotJournal said = SaysNotRecovered (unrecovered.Journal wal.NotJournal) (telling_alone said)
SaysUnfollowed (OtherVersion version) said = SaysNotRecovered (unrecovered.Journal (wal.OtherVersion version)) (telling_alone said)
SaysUnfollowed OtherDesign said = SaysNotRecovered unrecovered.OtherDesign (telling_alone said)
SaysUnfollowed (Damaged place) said = SaysNotRecovered (unrecovered.Journal (wal.Damaged place)) (telling_alone said)
SaysUnfollowed (Past place) said = SaysPast place said
SaysUnfollowed (Unlawful at) said = SaysNotRecovered (unrecovered.Unlawful at) (telling_alone said)
SaysUnfollowed (Differs place) said = SaysNotRecovered (unrecovered.Differs place) (telling_alone said)
SaysUnfollowed Memory said = ⊥

-- the state, where nothing is refused, and else the refusal
abbrev pub SaysEnd : Design → World → Option ReplicaError → Said → Type 0
SaysEnd d w None said = Says Done (followed_text d w) said
SaysEnd d w (Some error) said = SaysUnfollowed error said

-- The state is that of its events, which are annotated: as each of them came, the assertion of each unfinished transaction was true. Where
-- nothing is unfinished, what is asserted for all times is true of the rows, and none of them is private.
pub record IsReplayed (d : Design) (here : World) : Type 0 where
  pub run : world d here.events ≡ Some here
  pub annotated : IsAnnotated d here.events
  pub idle : unfinished here ≡ [] → IsIdle d here.rows

-- The bytes lead to this state, and then comes this refusal, or all that came whole is done; and so it is said. In what pieces the bytes
-- are fed says nothing.
pub record FollowsCopy (d : Design) (copy : List ℕ) (said : Said) : Type 0 where
  pub refused : Option ReplicaError
  pub here : World
  pub ends : Ends d copy refused here
  pub replayed : IsReplayed d here
  pub says : SaysEnd d here refused said

-- the design is accepted with the certificate, and so it is sound, and then the journal's bytes decide
pub record FollowsAccepted (d : Design) (certificate copy : List ℕ) (said : Said) : Type 0 where
  pub accepted : IsAcceptedWith d certificate
  pub follows : FollowsCopy d copy said

abbrev pub FollowsCertified : Design → List ℕ → List ℕ → Said → Type 0
FollowsCertified d certificate copy said = RefusesCertificate d certificate said ⊎ FollowsAccepted d certificate copy said

-- the text is that of this design, which is well-formed, and then the certificate decides
pub record FollowsDesign (design certificate copy : List ℕ) (said : Said) : Type 0 where
  pub d : Design
  pub is_text : IsDesignText design d
  pub formed : IsWellFormed d
  pub says : FollowsCertified d certificate copy said

-- the order of the refusals: the design, the certificate, the journal
abbrev pub FollowsFiles : List ℕ → List ℕ → List ℕ → Said → Type 0
FollowsFiles design certificate copy said = RefusesDesign design said ⊎ FollowsDesign design certificate copy said
