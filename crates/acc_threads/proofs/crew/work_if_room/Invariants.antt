use Rattle.std.proofs.Common.{Some}
use Rattle.acc_threads.specs.Crews.{script_of}
use Rattle.acc_threads.proofs.crew.work_if_room.Given as goal

abbrev pub ghosts-work_named-B-Run : goal.ghosts-work_named-B-Run
ghosts-work_named-B-Run g a = record { script = script_of a.engine; engine = Some a.engine }

abbrev pub ghosts-work_named-B-Room : goal.ghosts-work_named-B-Room
ghosts-work_named-B-Room g a = record { table = a.opened.table.shared.table_id; start = a.engine.state.events }
