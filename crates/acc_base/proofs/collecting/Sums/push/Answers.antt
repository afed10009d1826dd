use Rattle.std.proofs.Common.{ap, ◌∙◌}
use Rattle.acc_base.specs.Collecting.{place_of}
use Rattle.acc_base.proofs.CollectedPlaces.{tracked}
use Rattle.acc_base.proofs.collecting.Sums.push.Goals as goal

pub invariant_of-self-in-Ok : goal.invariant_of-self-in-Ok
invariant_of-self-in-Ok g c =
    let new = ap (place_of g.K.PartialEq.eq c.args.unknown.now) c.self.view_is ∙ c.requires in
    let last = c.len-place.ensures ∙ c.self.inside.sums.ok.0 in
    tracked g.K.PartialEq.eq g.met.K.Exact.eq_is g.K.Ord.cmp g.met.K.Ord.matches_eq c.self.inside.places c.insert.new.self
    c.self.inside.sums.items c.push.new.self.items c.args.unknown _ c.len-place.result c.self.invariant new c.in_ok-push.ensures.items
    last c.in-Ok.ensures.updates
