-- What a load and a mix behind it come to.
use Rattle.std.specs.Prelude.{◌≡◌, ◌++◌, ℕ, List, [], length, count_by}
use Rattle.acc_base.specs.declared.designs.Design.{Design}
use Rattle.acc_base.specs.declared.machines.Call.{Call}
use Rattle.acc_base.specs.declared.machines.Event.{Event}
use Rattle.acc_base.specs.Machine.{World}
use Rattle.acc_base.specs.Plays.{Play, Told, opening}
use Rattle.tpcc_tables.specs.declared.tables.TableSet.{TableSet}
use Rattle.acc_player.specs.Schedules.{Schedules, IsAfterSchedule}
use Rattle.acc_lock_rules.specs.LockRules.{with_locks}
use Rattle.acc_schedule.specs.Schedules.{EndsWell, TellsBegun}
use Rattle.acc_bench.specs.declared.results.Benched.{Benched}
use Rattle.acc_bench.specs.declared.results.Loaded.{Loaded}
use Rattle.acc_bench.specs.declared.results.Mixed.{Mixed}
use Rattle.acc_bench.specs.Conditions.{IsLowest}
use Rattle.acc_bench.specs.Counts.{commits, compensates, is_blocked, turns_victim}
use Rattle.acc_bench.specs.Runs.{behind}

-- what is told of a load, by the play that it left
pub record TellsLoad (load : List Call) (loaded : Play) (l : Loaded) : Type 0 where
  pub places : l.places ≡ length load
  pub events : l.events ≡ length loaded.world.events
  pub begun : TellsBegun l.all_begun loaded.numbers loaded.world.events

-- From the start on each call of the load is begun and turned to its end, in their order. From the play that this leaves the calls of the
-- mix take their turns in the order, by the rules of locks, and are ended, which leads to this state. What is told are the events after
-- the load; how many of the mix's calls committed, and how many were compensated; and how many of the order's turns were blocked, and
-- how many turned a victim back. The history ends well.
pub record ComesTo (d : Design) (load mix : List Call) (order : List ℕ) (l : Loaded) (m : Mixed) (w : World) : Type 0 where
  pub loaded : Play
  pub mentions : List (Told × Play)
  pub ended : Play
  pub loads : IsAfterSchedule (with_locks d) load [] (opening load) loaded
  pub mixes : Schedules (with_locks d) mix (behind loaded mix) order mentions ended
  pub at : w ≡ ended.world
  pub load_is : TellsLoad load loaded l
  pub committed : m.committed ≡ count_by (commits w) ended.numbers
  pub compensated : m.compensated ≡ count_by (compensates w) ended.numbers
  pub blocked : m.blocked ≡ count_by is_blocked mentions
  pub victims : m.victims ≡ count_by turns_victim mentions
  pub begun : TellsBegun m.all_begun ended.numbers w.events
  pub goes_on : (more : List Event) × (w.events ≡ loaded.world.events ++ more)
  pub ends_well : EndsWell d w.events w

-- what comes of a load and a mix; all events; and the lowest consistency condition that is false of the rows at the end
pub record Benches (s : TableSet) (d : Design) (load mix : List Call) (order : List ℕ) (b : Benched) : Type 0 where
  pub world : World
  pub comes : ComesTo d load mix order b.loaded b.mixed world
  pub history : b.history ≡ world.events
  pub against : IsLowest s world.rows b.against
