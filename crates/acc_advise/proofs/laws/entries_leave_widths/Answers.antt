use Rattle.acc_advise.proofs.Widths.{wide_with_some}
use Rattle.acc_advise.proofs.laws.entries_leave_widths.Goals as goal

pub returns : goal.returns
returns c = wide_with_some
