use Rattle.std.proofs.Common.{ap, sym, subst, ◌≡◌, ◌∙◌, ◌++◌, ◌∷◌, []}
use Rattle.std.specs.Prelude.{OnOk}
use Rattle.std.specs.Int.{w128}
use Rattle.std.proofs.lemmas.Int.{to_z-of_z}
use Rattle.acc_base.proofs.CollectedPlaces.{kept_there, written_at, written_last}
use Rattle.acc_base.proofs.collecting.Sums.put.Goals as goal

pub invariant_of-self : goal.invariant_of-self
invariant_of-self g c =
    let here = c.index_mut.result.now in
    λ x. c.self.invariant x
    ∙ kept_there g.K.PartialEq.eq x c.self.inside.sums.items c.in-Some.place here here.0 _ (ap (λ u. u.0.now) c.index_mut.ensures.value)

pub returns-in-Some : goal.returns-in-Some
returns-in-Some g c =
    let here = c.index_mut.result.now in
    let same = to_z-of_z w128 c.args.sum c.ranges.sum in
    written_at g.K.PartialEq.eq c.args.unknown.now c.args.sum c.args.self.now c.self.inside.sums.items c.in-Some.place here _
    c.self.view_is c.in-Some.ensures.value c.index_mut.ensures.value same

pub returns-in-None : goal.returns-in-None
returns-in-None g c =
    let same = ap (λ n. c.args.self.now ++ (c.args.unknown.now, n) ∷ []) (to_z-of_z w128 c.args.sum c.ranges.sum) in
    let last = written_last g.K.PartialEq.eq c.args.unknown.now c.args.sum c.args.self.now (sym c.in-None.ensures.value) in
    subst (λ sums. OnOk c.push.result (c.push.new.self ≡ sums)) (same ∙ last) c.push.ensures
