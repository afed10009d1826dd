-- What is told where a schedule stops.
use Rattle.std.specs.Prelude.{◌≡◌, ℕ, List, length, take, Option, Some, None, slice_get}
use Rattle.std.specs.List.{flat_map, range_with_len}
use Rattle.acc_base.specs.Lines.{settled_line}
use Rattle.acc_base.specs.Machine.{World, world}
use Rattle.acc_base.specs.Plays.{Play}
use Rattle.acc_engine.specs.Keeping.{Journalled}
use Rattle.acc_settling.specs.Openings.{CanBegin}

-- a line each place: its reply after the durable events, or that it is unsettled
pub record TellsSettled {D : Type 0} (e : Journalled D) (p : Play) (text : List ℕ) : Type 0 where
  pub durable : World
  pub run : world e.design (take e.settled e.state.events) ≡ Some durable
  pub text_is : text ≡ flat_map (settled_line (record p { world = durable })) (range_with_len 1 (length e.calls))

-- the numbers are those of the engine's places: there is one for each call, and the engine hasn't begun a place without a number
pub record AreNumbersOf {D : Type 0} (e : Journalled D) (numbers : List (Option ℕ)) : Type 0 where
  pub count : length numbers ≡ length e.calls
  pub unbegun : (at : ℕ) → slice_get numbers at ≡ Some None → CanBegin e at
