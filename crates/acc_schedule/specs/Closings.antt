-- What is told of a schedule that has run.
use Rattle.std.specs.Prelude.{◌≡◌, ◌++◌, ℕ, List, length, codes}
use Rattle.std.specs.List.{flat_map, range_with_len}
use Rattle.std.specs.Fmt.{decimal}
use Rattle.acc_base.specs.Lines.{line}
use Rattle.acc_player.specs.declared.boards.Board.{Board}
use Rattle.acc_player.specs.Playing.{Playing}
use Rattle.acc_player.specs.Schedules.{line_after}
use Rattle.acc_schedule.specs.declared.schedules.Scheduled.{Scheduled}
use Rattle.acc_schedule.specs.Schedules.{EndsWell, TellsBegun}

-- behind the lines of a board whose player has nothing unfinished: a reply line each place, and the number of events
pub record IsClosed (p : Playing) (b : Board) (s : Scheduled) : Type 0 where
  pub replied : List ℕ
  pub replies : replied ≡ b.text.items ++ flat_map (line_after p.world b.numbers.items) (range_with_len 1 (length b.numbers.items))
  pub text : s.text.items ≡ replied ++ line (codes "events " ++ decimal (length p.world.events))
  pub history : s.history ≡ p.world.events
  pub ends_well : EndsWell p.design p.world.events p.world
  pub begun : TellsBegun s.all_begun b.numbers.items p.world.events
