use Rattle.acc_commands_journals.proofs.runs.run_calls.Goals as goal

pub returns-in-Ordered : goal.returns-in-Ordered
returns-in-Ordered g c = rw c.in-Ordered.is c.run_order.ensures

pub returns-in-Workers : goal.returns-in-Workers
returns-in-Workers g c = rw c.in-Workers.is c.run_workers.ensures
