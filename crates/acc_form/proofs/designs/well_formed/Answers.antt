use Rattle.std.proofs.Common.{rules}
use Rattle.std.proofs.lemmas.Bool.{false≢true}
use Rattle.acc_form.proofs.Placed.{well_formed_of_none, faulty_of_least}
use Rattle.acc_form.proofs.JudgedFaults.{fault_in_print}
use Rattle.acc_form.proofs.designs.well_formed.Goals as goal

pub returns-in-None-clause-ok : goal.returns-in-None-clause-ok
returns-in-None-clause-ok c = (λ h. well_formed_of_none c.args.design.now c.in-None.ensures, λ h. search rules)

pub returns-in-Some-clause-ok : goal.returns-in-Some-clause-ok
returns-in-Some-clause-ok c =
    (λ h. absurd (false≢true h), λ w. absurd (faulty_of_least c.args.design.now _ c.in-Some.ensures w))

pub returns-in-Some-clause-printed : goal.returns-in-Some-clause-printed
returns-in-Some-clause-printed c = fault_in_print c.args.design.now _ _ c.in-Some.ensures.there
