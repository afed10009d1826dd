-- A load from the start, and a mix behind it.
use Rattle.std.specs.Prelude.{◌≡◌, ◌≤◌, ℕ, List, [], length, replicate, None}
use Rattle.acc_base.specs.declared.bounds.TheConstants.{MOST_EVENTS}
use Rattle.acc_base.specs.declared.designs.Design.{Design}
use Rattle.acc_base.specs.declared.machines.Call.{Call}
use Rattle.acc_base.specs.Machine.{World, unfinished}
use Rattle.acc_base.specs.Plays.{Play, opening}
use Rattle.acc_player.specs.declared.boards.Board.{Board}
use Rattle.acc_player.specs.declared.details.Detail.TheVariants.{Marks}
use Rattle.acc_player.specs.Boards.{play_of, IsUnbegun}
use Rattle.acc_player.specs.Details.{mention_text}
use Rattle.acc_player.specs.Playing.{Playing}
use Rattle.acc_player.specs.Schedules.{IsAfterSchedule, IsRun}
use Rattle.acc_lock_rules.specs.LockRules.{with_locks}
use Rattle.acc_bench.specs.declared.runs.Played.{Played}

-- the play that a load left, with the calls of a mix, none of which has begun
abbrev pub behind : Play → List Call → Play
behind loaded mix = record loaded { numbers = replicate (length mix) None }

-- the machine before any event, with the calls of a load
pub record IsOpened (d : Design) (load : List Call) (p : Played) : Type 0 where
  pub design : p.player.design ≡ d
  pub calls : p.player.calls ≡ load
  pub opens : play_of p.player.world p.board ≡ opening load
  pub text : p.board.text.items ≡ []

-- the machine that a load left, with the calls of a mix
pub record IsBehind (loaded : Playing) (b : Board) (mix : List Call) (p : Played) : Type 0 where
  pub design : p.player.design ≡ loaded.design
  pub calls : p.player.calls ≡ mix
  pub opens : play_of p.player.world p.board ≡ behind (play_of loaded.world b) mix
  pub text : p.board.text.items ≡ []

-- a place that couldn't begin found the history full
abbrev pub LeavesIfFull : World → Board → Type 0
LeavesIfFull w b = (at : ℕ) → IsUnbegun at b → MOST_EVENTS ≤ length w.events

-- each call of the load is begun and turned to its end, in their order, from the start
pub record IsLoad (d : Design) (load : List Call) (p : Played) : Type 0 where
  pub design : p.player.design ≡ d
  pub schedule : IsAfterSchedule (with_locks d) load [] (opening load) (play_of p.player.world p.board)
  pub full : LeavesIfFull p.player.world p.board

-- the calls of the mix have taken their turns in the order, behind what the load left, and are ended; and the marks are kept
pub record IsMix (d : Design) (mix : List Call) (order : List ℕ) (loaded : Play) (p : Played) : Type 0 where
  pub design : p.player.design ≡ d
  pub run : IsRun (with_locks d) (mention_text Marks d) mix (behind loaded mix) order p.board.text.items
      (play_of p.player.world p.board)
  pub over : unfinished p.player.world ≡ []
  pub full : LeavesIfFull p.player.world p.board
