use Rattle.std.proofs.Common.{◌∙◌, sym}
use Rattle.acc_form.proofs.Placed.{first_of_design, range_fault}
use Rattle.acc_form.proofs.designs.first_fault.Goals as goal

pub returns-then-not-design_in : goal.returns-then-not-design_in
returns-then-not-design_in c = range_fault c.args.design.now (sym c.design_in.ensures ∙ c.if-not-design_in.true)

pub returns : goal.returns
returns c =
    first_of_design c.args.design.now c.new-walk.result c.meet_design.new.walk (sym c.design_in.ensures ∙ c.if-not-design_in.false)
    c.new-walk.ensures c.meet_design.ensures
