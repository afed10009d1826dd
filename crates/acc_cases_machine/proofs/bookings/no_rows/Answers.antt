use Rattle.std.proofs.Common.{[], sym, subst}
use Rattle.acc_base.specs.Tables.{IsInOrder}
use Rattle.acc_base.proofs.RowOrder.{order_to}
use Rattle.acc_cases_machine.proofs.bookings.no_rows.Goals as goal

pub returns-clause-order : goal.returns-clause-order
returns-clause-order c = subst IsInOrder (sym c.new.ensures) (order_to [] tt)
