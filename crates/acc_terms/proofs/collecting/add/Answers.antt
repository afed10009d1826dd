use Rattle.std.proofs.Common.{rules, ◌≡◌, ◌∙◌, ◌^◌, ◌+ℤ◌, ap, subst}
use Rattle.std.specs.Prelude.{FitsSigned, OnOk, unsigned_abs}
use Rattle.std.specs.Int.{w128}
use Rattle.std.proofs.lemmas.Int.{to_z-of_z}
use Rattle.acc_base.specs.Collecting.{sum_of, with_sum}
use Rattle.acc_base.proofs.CollectedPlaces.{sum_grown}
use Rattle.acc_terms.proofs.Bounds.{sum_room, room_fits}
use Rattle.acc_terms.proofs.collecting.add.Goals as goal

pub overflow_add-sum : goal.overflow_add-sum
overflow_add-sum g c =
    let E = g.K.PartialEq.eq in
    let number = c.args.number in
    let fits : FitsSigned w128 c.of.result = search rules in
    let sum = to_z-of_z w128 c.of.result fits ∙ c.of.ensures in
    let room = sum_room E (2 ^ 127) (unsigned_abs number) c.args.unknown.now c.args.sums.now c.requires.room in
    room_fits (sum_of E c.args.unknown.now c.args.sums.now) number _ _ sum (to_z-of_z w128 number c.ranges.number) c.ranges.number room

pub returns : goal.returns
returns g c =
    let E = g.K.PartialEq.eq in
    let number = c.args.number in
    let x = c.args.unknown.now in
    let sums = c.args.sums.now in
    let fits : FitsSigned w128 c.of.result = search rules in
    let sum = to_z-of_z w128 c.of.result fits ∙ c.of.ensures in
    let term = to_z-of_z w128 number c.ranges.number in
    let room = sum_room E (2 ^ 127) (unsigned_abs number) x sums c.requires.room in
    let same = to_z-of_z w128 _ (room_fits (sum_of E x sums) number _ _ sum term c.ranges.number room) ∙ (λ i. sum i +ℤ term i) in
    subst (λ us. OnOk c.put.result (c.put.new.self ≡ us)) (ap (λ z. with_sum E x z sums) same ∙ sum_grown E x number sums) c.put.ensures
