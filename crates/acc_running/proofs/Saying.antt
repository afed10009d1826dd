-- What is said of a schedule that ended, or stopped.
use Rattle.std.proofs.Common.{◌≡◌, inl, inr, ℕ, List, length, Bool, false, Result, Ok, Err, sym, subst}
use Rattle.std.specs.Prelude.{IfOk, IfErr, OnOk}
use Rattle.acc_base.specs.declared.designs.Design.{Design}
use Rattle.acc_base.specs.declared.machines.Call.{Call}
use Rattle.acc_base.specs.Plays.{Play}
use Rattle.acc_engine.specs.Keeping.{Journalled}
use Rattle.acc_engine.specs.Sealing.{EndsSealed}
use Rattle.acc_schedule.specs.Schedules.{TellsScheduleFrom}
use Rattle.acc_settling.specs.declared.schedules.Scheduled.{Scheduled}
use Rattle.acc_settling.specs.declared.schedules.Stopped.{Stopped}
use Rattle.acc_settling.specs.declared.schedules.Stopped.TheVariants.{Disk, Memory}
use Rattle.acc_settling.specs.Growth.{HasGrown}
use Rattle.acc_settling.specs.Schedules.{TellsFailed, TellsPartOfSchedule}
use Rattle.acc_journalled.specs.declared.answers.Answer.{Answer}
use Rattle.acc_running.specs.Engines.{SaysTold, SaysRun}

module _ {D : Type 0} (d : Design) (calls : List Call) (order : List ℕ) (opened : Play) (grew : Bool) (new : Journalled D) where
  pub says_one :
      (told : Result Scheduled Stopped)
      → IfOk told (λ s. TellsScheduleFrom d calls opened order s.text.items new.state.events s.all_begun)
      → OnOk told ((new.settled ≡ length new.state.events) × (new.failed ≡ false)) → OnOk told (HasGrown grew new → EndsSealed new)
      → IfErr told (TellsFailed new)
      → IfErr told (TellsPartOfSchedule d calls order opened new)
      → (s : Answer) → SaysTold told s → SaysRun d calls order opened grew new s
  says_one (Ok told) tells settled sealed stops parts s says =
      inl
      (record {
        all_begun = told.all_begun;
        tells =
            subst (λ (t : List ℕ). TellsScheduleFrom d calls opened order t new.state.events told.all_begun) (sym says.1) tells;
        ending = says.0;
        settled = settled.0;
        unfailed = settled.1;
        sealed = sealed;
      })
  says_one (Err (Disk lines)) tells settled sealed stops parts s says =
      inr
      (record {
        failed = stops.0;
        play = stops.1.0;
        numbers = stops.1.2;
        lines = lines.items;
        replies = stops.1.3;
        unsettled = parts;
        says = says;
      })
  says_one (Err Memory) tells settled sealed stops parts s says = absurd says
