use Rattle.std.proofs.Common.{Some}
use Rattle.acc_threads.specs.Crews.{script_of}
use Rattle.acc_cases_threads.proofs.calls.work_by_calls.Given as goal

abbrev pub ghosts-share-B-Run : goal.ghosts-share-B-Run
ghosts-share-B-Run g a = record { script = script_of a.engine; engine = Some a.engine }

abbrev pub ghosts-share-B-Room : goal.ghosts-share-B-Room
ghosts-share-B-Room g a = record { table = a.opened.table.shared.table_id; start = a.engine.state.events }
