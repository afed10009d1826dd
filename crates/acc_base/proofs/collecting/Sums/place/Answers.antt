use Rattle.std.proofs.Common.{rules, ◌≡◌}
use Rattle.acc_base.specs.Collecting.{place_of}
use Rattle.acc_base.proofs.CollectedPlaces.{is_within}
use Rattle.acc_base.proofs.collecting.Sums.place.Goals as goal

pub returns-clause-within : goal.returns-clause-within
returns-clause-within g c =
    let same : c.copied.result ≡ place_of g.K.PartialEq.eq c.args.unknown.now c.args.self.now = search rules in
    is_within g.K.PartialEq.eq c.args.unknown.now c.args.self.now c.copied.result same
