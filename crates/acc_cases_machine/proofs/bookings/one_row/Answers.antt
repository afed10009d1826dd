use Rattle.std.proofs.Common.{[], ◌∷◌, ◌++◌, sym, ap, ◌∙◌, subst}
use Rattle.acc_base.specs.Tables.{IsInOrder}
use Rattle.acc_base.proofs.RowOrder.{order_to}
use Rattle.acc_cases_machine.proofs.bookings.one_row.Goals as goal

pub returns-clause-order : goal.returns-clause-order
returns-clause-order c =
    subst IsInOrder
    (sym (c.from_vec.ensures ∙ c.in_ok-push.ensures.items ∙ ap (λ rows. rows ++ c.args.row ∷ []) c.new-rows.ensures.items))
    (order_to (c.args.row ∷ []) (tt, tt))
