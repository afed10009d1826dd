use Rattle.acc_schedule.proofs.OneSchedule.{schedules_once}
use Rattle.acc_schedule.proofs.laws.schedules_are_one.Goals as goal

pub returns : goal.returns
returns c = schedules_once
