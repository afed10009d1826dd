-- What an audit tells of a list of events.
use Rattle.std.specs.Prelude.{◌≡◌, ◌⊎◌, ⊤, ℕ, ◌+◌, ◌-◌, ◌<◌, ◌≤◌, List, [], ◌∷◌, ◌++◌, length, take, All, Option, Some, None, MatchOption}
use Rattle.std.specs.Prelude.{Result, Ok, Err, slice_get, ℤ, true}
use Rattle.acc_base.specs.declared.tables.Row.{Row}
use Rattle.acc_base.specs.declared.forms.Clause.{Clause}
use Rattle.acc_base.specs.declared.designs.Design.{Design}
use Rattle.acc_base.specs.declared.machines.Frame.{Frame}
use Rattle.acc_base.specs.declared.machines.Event.{Event}
use Rattle.acc_base.specs.Assertions.{clauses_of}
use Rattle.acc_base.specs.Effects.{point_of}
use Rattle.acc_base.specs.Lawful.{AreLawful}
use Rattle.acc_base.specs.Linear.{variables}
use Rattle.acc_base.specs.Machine.{World, unfinished, world}
use Rattle.acc_base.specs.Soundness.{IsSound}
use Rattle.acc_base.specs.Truth.{ClauseTrue}
use Rattle.acc_audit_ranges.specs.Ranges.{is_in_range}
use Rattle.acc_audit_trial.specs.Trials.{HoldsAt, FailsAt}
use Rattle.acc_audit_complaints.specs.declared.searches.Complaint.{Complaint}
use Rattle.acc_audit_complaints.specs.declared.searches.Complaint.TheVariants as complaint
use Rattle.acc_audit_complaints.specs.Complaints.{IsFirst}
use Rattle.acc_audit.specs.declared.steps.AuditFinding.{AuditFinding}
use Rattle.acc_audit.specs.declared.steps.AuditFinding.TheVariants as finding
use Rattle.acc_audit.specs.declared.steps.AuditError.{AuditError}
use Rattle.acc_audit.specs.declared.steps.AuditError.TheVariants as error

-- a transaction, or 0, the number of a clause, and what is wrong with it
abbrev pub Found : Type 0
Found = ℕ × ℕ × Complaint

-- ---- the assertions in a state, in order: those of all times, and then those of the unfinished transactions' points

-- the first clause of a frame's point with which something is wrong
abbrev pub IsFirstOf : Design → List Row → Frame → Option (ℕ × Complaint) → Type 0
IsFirstOf d db f found = IsFirst db (variables f.t f.locals) (clauses_of (point_of d f.ty f.point)) found

-- something is wrong with an assertion of a frame, and with none of the frames before it
pub record IsFirstFrame (d : Design) (db : List Row) (frames : List Frame) (found : Found) : Type 0 where
  pub before : List Frame
  pub frame : Frame
  pub behind : List Frame
  pub parts : frames ≡ before ++ frame ∷ behind
  pub clear : All (λ f. IsFirstOf d db f None) before
  pub number : found.0 ≡ frame.t
  pub tells : IsFirstOf d db frame (Some (found.1, found.2))

abbrev pub IsFirstAmong : Design → List Row → List Frame → Option Found → Type 0
IsFirstAmong d db frames found = MatchOption found (All (λ f. IsFirstOf d db f None) frames) (IsFirstFrame d db frames)

-- nothing is wrong in a state
pub record IsClear (d : Design) (db : List Row) (frames : List Frame) : Type 0 where
  pub always : IsFirst db [] d.always None
  pub each : All (λ f. IsFirstOf d db f None) frames

-- the first clause with which something is wrong is asserted at all times
pub record IsFirstAlways (d : Design) (db : List Row) (found : Found) : Type 0 where
  pub number : found.0 ≡ 0
  pub tells : IsFirst db [] d.always (Some (found.1, found.2))

-- or it is of a transaction's point
pub record IsFirstBehind (d : Design) (db : List Row) (frames : List Frame) (found : Found) : Type 0 where
  pub always : IsFirst db [] d.always None
  pub frame : IsFirstFrame d db frames found

abbrev pub Complains : Design → List Row → List Frame → Found → Type 0
Complains d db frames found = IsFirstAlways d db found ⊎ IsFirstBehind d db frames found

-- the first clause with which something is wrong in a state, and what that is
abbrev pub IsFirstIn : Design → List Row → List Frame → Option Found → Type 0
IsFirstIn d db frames found = MatchOption found (IsClear d db frames) (Complains d db frames)

-- ---- the answer, by the lowest place

-- nothing is wrong after any of the first n events, which are a run
pub record IsClearAt (d : Design) (events : List Event) (k : ℕ) : Type 0 where
  pub state : World
  pub is_state : world d (take k events) ≡ Some state
  pub clear : IsClear d state.rows (unfinished state)

abbrev pub IsClearTo : Design → List Event → ℕ → Type 0
IsClearTo d events n = (k : ℕ) → 1 ≤ k → k ≤ n → IsClearAt d events k

-- after the first `place` events something is wrong for the first time
pub record IsFoundAt (d : Design) (events : List Event) (place : ℕ) (found : Found) : Type 0 where
  pub from_one : 1 ≤ place
  pub within : place ≤ length events
  pub clear : IsClearTo d events (place - 1)
  pub state : World
  pub is_state : world d (take place events) ≡ Some state
  pub complains : Complains d state.rows (unfinished state) found

-- the first `at` events are a run after none of which something is wrong, and with the next they are none
pub record IsNoRunAt (d : Design) (events : List Event) (at : ℕ) : Type 0 where
  pub within : at < length events
  pub clear : IsClearTo d events at
  pub stops : world d (take (at + 1) events) ≡ None

abbrev pub Tells : Design → List Event → Result AuditFinding AuditError → Type 0
Tells d events (Ok finding.Clean) = IsClearTo d events (length events)
Tells d events (Ok (finding.False place t n own)) = IsFoundAt d events place (t, n, complaint.False own)
Tells d events (Err (error.NotRun at)) = IsNoRunAt d events at
Tells d events (Err (error.Large place t n)) = IsFoundAt d events place (t, n, complaint.Large)
Tells d events (Err error.Memory) = ⊤

-- ---- what it means

-- a clause that is asserted in a state, by its transaction, or 0, and its number there, with the values of the variables outside it
pub data IsAsserted (d : Design) (w : World) : ℕ → ℕ → List ℤ → Clause → Type 0 where
  always : (i : ℕ) (c : Clause) → slice_get d.always i ≡ Some c → IsAsserted d w 0 (i + 1) [] c
  of_frame :
      (j i : ℕ) (f : Frame) (c : Clause) → slice_get (unfinished w) j ≡ Some f
      → slice_get (clauses_of (point_of d f.ty f.point)) i ≡ Some c → IsAsserted d w f.t (i + 1) (variables f.t f.locals) c

-- after the first `place` events this clause is false, and these values for its own variables show it
pub record ShowsFalse (d : Design) (events : List Event) (place t n : ℕ) (own : List ℤ) : Type 0 where
  pub state : World
  pub is_state : world d (take place events) ≡ Some state
  pub env : List ℤ
  pub clause : Clause
  pub is_asserted : IsAsserted d state t n env clause
  pub each_has : length own ≡ length clause.vars
  pub fails : FailsAt state.rows (env ++ own) clause
  pub false : ¬ ClauseTrue state.rows env clause

-- each of some values lies in the range of its variable
abbrev pub AreInRanges : List Row → List ℤ → Clause → List ℤ → Type 0
AreInRanges db env c own = (i : ℕ) (x : ℤ) → slice_get own i ≡ Some x → is_in_range db env c (length env + i) x ≡ true

-- after no event is a clause false at values of its ranges
abbrev pub NeverFalse : Design → List Event → Type 0
NeverFalse d events =
    (k : ℕ) (w : World) (t n : ℕ) (env : List ℤ) (c : Clause) (own : List ℤ) → 1 ≤ k → k ≤ length events
    → world d (take k events) ≡ Some w → IsAsserted d w t n env c → length own ≡ length c.vars → AreInRanges w.rows env c own
    → HoldsAt w.rows (env ++ own) c

abbrev pub TellsMeaning : Design → List Event → Result AuditFinding AuditError → Type 0
TellsMeaning d events (Ok finding.Clean) = NeverFalse d events
TellsMeaning d events (Ok (finding.False place t n own)) = ShowsFalse d events place t n own
TellsMeaning d events (Err (error.NotRun at)) = world d events ≡ None
TellsMeaning d events (Err (error.Large place t n)) = ⊤
TellsMeaning d events (Err error.Memory) = ⊤

-- no clause is told to be false, and no event to be none of a run
abbrev pub IsKind : Result AuditFinding AuditError → Type 0
IsKind (Ok finding.Clean) = ⊤
IsKind (Ok (finding.False place t n own)) = ⊥
IsKind (Err (error.NotRun at)) = ⊥
IsKind (Err (error.Large place t n)) = ⊤
IsKind (Err error.Memory) = ⊤

-- the law: so it is where the design is sound and the events are lawful
abbrev pub IsKindToSound : Design → List Event → Result AuditFinding AuditError → Type 0
IsKindToSound d events told = IsSound d → AreLawful d events → IsKind told

-- ---- that it is one

-- the law: two such answers to the same events are the same, but where memory ran out
abbrev pub TellsOne : Type 0
TellsOne = (d : Design) (events : List Event) (a b : Result AuditFinding AuditError) → Tells d events a → Tells d events b
    → (a ≡ b) ⊎ (a ≡ Err error.Memory) ⊎ (b ≡ Err error.Memory)
