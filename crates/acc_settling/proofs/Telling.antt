-- What is told where a schedule stops.
use Rattle.std.proofs.Common.{◌≡◌, ◌++◌, ℕ, List, length, take, drop, Bool, Option, refl, sym, ap, subst, ◌∙◌}
use Rattle.std.specs.Prelude.{option_and_then}
use Rattle.std.specs.List.{flat_map, range_with_len}
use Rattle.std.specs.Fmt.{decimal}
use Rattle.std.proofs.lemmas.List.{take-append-drop}
use Rattle.acc_base.specs.declared.designs.Design.{Design}
use Rattle.acc_base.specs.declared.machines.Call.{Call}
use Rattle.acc_base.specs.Lines.{line, mention_line, settled_text, settled_line, ending_text}
use Rattle.acc_base.specs.Machine.{World, start, reply_at, after_events}
use Rattle.acc_base.specs.Plays.{Play}
use Rattle.acc_lift.proofs.Theorem.{lead_runs}
use Rattle.acc_machine.specs.Kept.{IsKept}
use Rattle.acc_engine.specs.Keeping.{Journalled}
use Rattle.acc_engine.proofs.Tails.{between}
use Rattle.acc_player.specs.declared.stops.Stop.{Stop}
use Rattle.acc_player.specs.declared.stops.Stop.TheVariants.{Disk as DiskFails, Memory as NoMemory}
use Rattle.acc_settling.specs.declared.schedules.Stopped.{Stopped}
use Rattle.acc_settling.specs.declared.schedules.Stopped.TheVariants.{Disk, Memory}
use Rattle.acc_player.specs.declared.boards.Board.{Board}
use Rattle.acc_player.specs.Boards.{play_of}
use Rattle.acc_player.specs.Schedules.{number_at, Schedules, IsRun}
use Rattle.acc_player.proofs.Lines.{ending_text_is}
use Rattle.acc_lock_rules.specs.LockRules.{with_locks}
use Rattle.acc_schedule.specs.Schedules.{TellsScheduleFrom, EndsWell}
use Rattle.acc_settling.specs.Leaving.{Stops}
use Rattle.acc_settling.specs.Replies.{durable_line}
use Rattle.acc_settling.specs.Schedules.{IsClosed, StopsSo, TellsStop}
use Rattle.acc_settling.specs.Stops.{TellsSettled}

-- the line of a place after the state that some events lead to, if they lead to one
abbrev line_by : Option World → List (Option ℕ) → ℕ → List ℕ
line_by o numbers place =
    line (decimal place ++ settled_text (option_and_then (λ t. option_and_then (reply_at t) o) (number_at numbers place)))

-- the durable lines are those of the state after the durable events
pub tells_settled : {D : Type 0} (e : Journalled D) (p : Play) (text : List ℕ) → IsKept e.design e.state
    → length p.numbers ≡ length e.calls → text ≡ flat_map (durable_line e p.numbers) (range_with_len 1 (length p.numbers))
    → TellsSettled e p text
tells_settled e p text kept count text_is =
    let front = take e.settled e.state.events in
    let rest = drop e.settled e.state.events in
    let run = lead_runs e.design e.state.events start e.state kept.good.lawful in
    let halves =
    between e.design start e.state front rest
    (ap (after_events e.design start) (take-append-drop e.settled e.state.events) ∙ run) in
    record {
      durable = halves.0;
      run = halves.1;
      text_is =
          text_is ∙ ap (λ (o : Option World). flat_map (line_by o p.numbers) (range_with_len 1 (length p.numbers))) halves.1
          ∙ ap (λ (n : ℕ). flat_map (settled_line (record p { world = halves.0 })) (range_with_len 1 n)) count;
    }

pub tells_stop : {D : Type 0} (count : D → ℕ) (stop : Stop) (result : Stopped) (old new : Journalled D) (p : Play) → p.world ≡ new.state
    → Stops count stop old new → StopsSo stop new p result → TellsStop count result old new
tells_stop count DiskFails (Disk text) old new p at why so = ((why.0, (p, at, so.1, so.2)), λ failed. why.1)
tells_stop count NoMemory (Disk text) old new p at why so = absurd (let e = so.0 in cc)
tells_stop count DiskFails Memory old new p at why so = (tt, λ failed. why.1)
tells_stop count NoMemory Memory old new p at why so = (tt, λ failed. absurd (let e = sym failed ∙ why in cc))

-- a schedule that has run and is closed
pub tells_from : {D : Type 0} (d : Design) (calls : List Call) (order : List ℕ) (first : Play) (w : World) (e : Journalled D)
    (ran closed : Board) (all_begun : Bool) → e.design ≡ d → e.state ≡ w → length ran.numbers.items ≡ length calls
    → IsRun (with_locks d) (mention_line d) calls first order ran.text.items (play_of w ran) → IsClosed e ran closed all_begun
    → TellsScheduleFrom d calls first order closed.text.items e.state.events all_begun
tells_from d calls order first w e ran closed all_begun design same count run told =
    let q = play_of e.state ran in
    let here : play_of w ran ≡ q = ap (λ (v : World). play_of v ran) (sym same) in
    let ending = ending_text_is calls q q ran.text.items told.replied closed.text.items (length ran.numbers.items) count told.replies refl
    told.text in
    record {
      mentions = run.mentions;
      ended = q;
      schedules = subst (Schedules (with_locks d) calls first order run.mentions) here run.schedules;
      text_is = ending ∙ ap (λ (z : List ℕ). z ++ ending_text calls q) run.text_is;
      history_is = refl;
      ends_well = subst (λ (x : Design). EndsWell x e.state.events e.state) design told.ends_well;
      begun = told.begun;
    }
