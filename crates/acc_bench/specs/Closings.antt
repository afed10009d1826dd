-- What is told of a mix that has run.
use Rattle.std.specs.Prelude.{◌≡◌, ◌==◌, count_by}
use Rattle.acc_base.specs.Machine.{World}
use Rattle.acc_player.specs.declared.boards.Board.{Board}
use Rattle.acc_player.specs.declared.details.TheConstants.{BLOCKED, VICTIM}
use Rattle.acc_player.specs.Playing.{Playing}
use Rattle.acc_schedule.specs.Schedules.{EndsWell, TellsBegun}
use Rattle.acc_bench.specs.declared.results.Loaded.{Loaded}
use Rattle.acc_bench.specs.declared.results.Mixed.{Mixed}
use Rattle.acc_bench.specs.declared.results.Ran.{Ran}
use Rattle.acc_bench.specs.Counts.{commits, compensates}

-- how the transactions of a board's places ended, and how many marks of each kind its turns left
pub record TellsEnds (w : World) (b : Board) (m : Mixed) : Type 0 where
  pub committed : m.committed ≡ count_by (commits w) b.numbers.items
  pub compensated : m.compensated ≡ count_by (compensates w) b.numbers.items
  pub blocked : m.blocked ≡ count_by (λ c. c == BLOCKED) b.text.items
  pub victims : m.victims ≡ count_by (λ c. c == VICTIM) b.text.items
  pub begun : TellsBegun m.all_begun b.numbers.items w.events

-- all that is told of a mix, behind what was told of its load; and its state ends well
pub record IsClosed (l : Loaded) (p : Playing) (b : Board) (r : Ran) : Type 0 where
  pub loaded : r.loaded ≡ l
  pub mixed : TellsEnds p.world b r.mixed
  pub world : r.state.world ≡ p.world
  pub design : r.state.design ≡ p.design
  pub ends_well : EndsWell p.design p.world.events p.world
