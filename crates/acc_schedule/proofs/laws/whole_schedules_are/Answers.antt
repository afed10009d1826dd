use Rattle.acc_schedule.proofs.EachSchedule.{whole_schedules}
use Rattle.acc_schedule.proofs.laws.whole_schedules_are.Goals as goal

pub returns : goal.returns
returns c = whole_schedules
