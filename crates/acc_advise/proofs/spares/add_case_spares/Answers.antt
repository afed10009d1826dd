use Rattle.std.proofs.Common.{List, subst}
use Rattle.acc_oblig.specs.Drafts.{Draft}
use Rattle.acc_oblig_goals.specs.Causes.{Adds}
use Rattle.acc_advise.proofs.Entering.{case_design, case_held, case_place, case_step, case_spares}
use Rattle.acc_advise.proofs.spares.add_case_spares.Goals as goal

pub add_spares-requires-clause-design : goal.add_spares-requires-clause-design
add_spares-requires-clause-design c = case_design c.args.case.now c.requires.case

pub add_spares-requires-clause-held : goal.add_spares-requires-clause-held
add_spares-requires-clause-held c = case_held c.args.case.now c.requires.case

pub add_spares-requires-clause-place : goal.add_spares-requires-clause-place
add_spares-requires-clause-place c = case_place c.args.case.now c.requires.case

pub add_spares-requires-clause-step : goal.add_spares-requires-clause-step
add_spares-requires-clause-step c = case_step c.args.case.now c.requires.case

pub returns : goal.returns
returns c =
    subst (λ (ds : List Draft). Adds c.add_spares.result c.args.out.now c.add_spares.new.out ds)
    (case_spares c.args.case.now c.requires.case c.args.entries.now) c.add_spares.ensures
