use Rattle.tpcc_steps.specs.ShippedText.{shipped_design}
use Rattle.tpcc_steps.proofs.Reading.{has_shipped}
use Rattle.tpcc_steps.proofs.Theorem.{keeps}
use Rattle.tpcc_steps.proofs.laws.idle_keeps_conditions.Goals as goal

pub returns : goal.returns
returns c = keeps shipped_design has_shipped
