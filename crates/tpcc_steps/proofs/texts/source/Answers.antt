use Rattle.tpcc_steps.specs.ShippedText.{shipped_bytes}
use Rattle.tpcc_steps.proofs.Clones.{same_bytes}
use Rattle.tpcc_steps.proofs.texts.source.Goals as goal

pub returns : goal.returns
returns c = same_bytes shipped_bytes c.in_ok-text.text.items c.in_ok-text.ensures.ok
