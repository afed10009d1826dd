use Rattle.std.proofs.Common.{rules, ◌∙◌, sym}
use Rattle.std.specs.Prelude.{FitsSigned}
use Rattle.std.specs.Int.{w128}
use Rattle.std.proofs.lemmas.Int.{to_z-of_z}
use Rattle.acc_base.proofs.CollectedPlaces.{sum_at, sum_new}
use Rattle.acc_base.proofs.collecting.Sums.of.Goals as goal

pub returns-in-Some : goal.returns-in-Some
returns-in-Some g c =
    let here = c.index.result.now in
    let fits : FitsSigned w128 here.1 = search rules in
    to_z-of_z w128 here.1 fits
    ∙ sum_at g.K.PartialEq.eq c.args.unknown.now c.args.self.now c.self.inside.sums.items c.in-Some.place here c.self.view_is
    c.in-Some.ensures.value c.index.ensures

pub returns-in-None : goal.returns-in-None
returns-in-None g c = sym (sum_new g.K.PartialEq.eq c.args.unknown.now c.args.self.now (sym c.in-None.ensures.value))
