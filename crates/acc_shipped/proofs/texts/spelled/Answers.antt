use Rattle.acc_shipped.specs.Texts.{design_in}
use Rattle.acc_shipped.proofs.texts.spelled.Goals as goal

pub returns-in-Ok : goal.returns-in-Ok
returns-in-Ok c = c.in-Ok.ensures.only (design_in c.args.text.now) c.requires

pub lacking-requires : goal.lacking-requires
lacking-requires c = c.in-Err.ensures.only (design_in c.args.text.now) c.requires
