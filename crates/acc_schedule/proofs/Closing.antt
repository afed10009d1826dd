-- What is told of a whole schedule.
use Rattle.std.proofs.Common.{◌≡◌, ℕ, ◌≤◌, Bool, true, false, List, ◌++◌, length, Option, Some, None, refl, sym, ap, subst, ◌∙◌}
use Rattle.std.specs.Prelude.{Result, Ok, Err, IfOk, All, IsSome, IsTrue, IsFalse, slice_get}
use Rattle.acc_base.specs.declared.bounds.TheConstants.{MOST_EVENTS}
use Rattle.acc_base.specs.declared.designs.Design.{Design}
use Rattle.acc_base.specs.declared.machines.Call.{Call}
use Rattle.acc_base.specs.declared.machines.Event.{Event}
use Rattle.acc_base.specs.Invariant.{IsGood}
use Rattle.acc_base.specs.Machine.{World}
use Rattle.acc_base.specs.Plays.{Play, opening}
use Rattle.acc_base.specs.Lines.{mention_line, ending_text}
use Rattle.acc_lift.specs.Acceptance.{IsAccepted}
use Rattle.acc_lift.proofs.FormRules.{run_rules}
use Rattle.acc_lift.proofs.Theorem.{front_steady, idle}
use Rattle.acc_player.specs.declared.boards.Board.{Board}
use Rattle.acc_player.specs.Boards.{play_of}
use Rattle.acc_player.specs.Playing.{Playing}
use Rattle.acc_player.specs.Schedules.{Schedules, IsRun}
use Rattle.acc_player.proofs.Lines.{ending_text_is}
use Rattle.acc_lock_rules.specs.LockRules.{with_locks}
use Rattle.acc_schedule.specs.declared.schedules.Scheduled.{Scheduled}
use Rattle.acc_schedule.specs.Schedules.{TellsSchedule, TellsBegun, IsIdleBetween, EndsWell}
use Rattle.acc_schedule.specs.Closings.{IsClosed}

-- the events of a good state of an accepted design are idle whenever nothing is unfinished
pub idle_between : (d : Design) (w : World) → IsAccepted d → IsGood d w → IsIdleBetween d w.events
idle_between d w accepted good past rest v split is none =
    idle d v (front_steady d accepted.sound (run_rules d accepted.formed) w.events past rest w good.lawful split v is) none

-- what is told of whether each place has begun
pub begun_by : (numbers : List (Option ℕ)) (history : List Event) (b : Bool) → (IsTrue b → All IsSome numbers)
    → (IsFalse b → (at : ℕ) × (slice_get numbers at ≡ Some None))
    → ((at : ℕ) → slice_get numbers at ≡ Some None → MOST_EVENTS ≤ length history) → TellsBegun b numbers history
begun_by numbers history true all some full = all refl
begun_by numbers history false all some full = let a = some refl in (a, full a.0 a.1)

-- a schedule that has run and is closed
pub tells_schedule : (d : Design) (calls : List Call) (order : List ℕ) (first : Play) (p : Playing) (b : Board) (s : Scheduled)
    → first ≡ opening calls → p.design ≡ d → length b.numbers.items ≡ length calls
    → IsRun (with_locks d) (mention_line d) calls first order b.text.items (play_of p.world b) → IsClosed p b s
    → TellsSchedule d calls order s.text.items s.history s.all_begun
tells_schedule d calls order first p b s opens design count ran closed =
    let q = play_of p.world b in
    let ending = ending_text_is calls q q b.text.items closed.replied s.text.items (length b.numbers.items) count closed.replies refl
    closed.text in
    record {
      mentions = ran.mentions;
      ended = q;
      schedules = subst (λ (z : Play). Schedules (with_locks d) calls z order ran.mentions q) opens ran.schedules;
      text_is = ending ∙ ap (λ (z : List ℕ). z ++ ending_text calls q) ran.text_is;
      history_is = closed.history;
      ends_well =
          subst (λ (es : List Event). EndsWell d es p.world) (sym closed.history)
          (subst (λ (x : Design). EndsWell x p.world.events p.world) design closed.ends_well);
      begun = subst (λ (es : List Event). TellsBegun s.all_begun b.numbers.items es) (sym closed.history) closed.begun;
    }

-- what follows from a value's clause follows where there is one
pub if_ok : {T E : Type 0} {P Q : T → Type 0} (r : Result T E) → ((x : T) → P x → Q x) → IfOk r P → IfOk r Q
if_ok (Ok x) f h = f x h
if_ok (Err e) f h = h
