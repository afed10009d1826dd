use Rattle.std.proofs.Common.{◌∙◌, ap}
use Rattle.std.specs.Prelude.{is_some}
use Rattle.acc_parse_names.proofs.Placed.{placed_stands}
use Rattle.acc_parse_names.proofs.names.NameIndex.has.Goals as goal

pub returns : goal.returns
returns c = c.is_some.ensures ∙ ap is_some c.find.ensures.place ∙ placed_stands c.args.name.now c.args.self.now
