use Rattle.std.proofs.Common.{[], sym, subst}
use Rattle.acc_base.specs.Tables.{IsInOrder}
use Rattle.acc_base.proofs.RowOrder.{order_to, put_in_order}
use Rattle.acc_cases_machine.proofs.steps.one_row.Goals as goal

pub returns-clause-order : goal.returns-clause-order
returns-clause-order c =
    subst IsInOrder (sym c.in_ok-apply.ensures.ok) (put_in_order _ _ (subst IsInOrder (sym c.new-store.ensures) (order_to [] tt)))
