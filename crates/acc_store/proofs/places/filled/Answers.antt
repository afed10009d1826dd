use Rattle.std.proofs.Common.{◌≡◌, ◌<◌, ◌∷◌, [], ◌++◌, ◌∙◌, sym, subst, rules, arith, pos, length, length-set, take, FitsSigned, w64, to_z}
use Rattle.std.proofs.Common.{of_z}
use Rattle.std.specs.Prelude.{All, ◌≤ℤ◌, slice_index_or}
use Rattle.std.proofs.lemmas.Int.{ints, to_z-of_z}
use Rattle.std.proofs.lemmas.List.{take_more, take_more_set}
use Rattle.std.proofs.lemmas.List.Elements.{All-push}
use Rattle.acc_store.specs.Places.{top}
use Rattle.acc_store.proofs.places.filled.Goals as goal

pub loop-i-preserved : goal.loop-i-preserved
loop-i-preserved c =
    let key = c.args.key.now in
    let i = c.loop-i.i in
    let x = slice_index_or key i (pos 0) in
    let fits : FitsSigned w64 x = search rules in
    let same : to_z w64 (of_z w64 x) ≡ x = to_z-of_z w64 x fits in
    let within : i < length c.loop-i.parts = omega (arith, c.loop-i.invariant.room, c.loop-i-test.true, c.requires) in
    let more = take_more key i (pos 0) c.loop-i-test.true in
    let small : x ≤ℤ top = omega (arith, ints) in
    record {
      first = take_more_set c.loop-i.parts i (to_z w64 (of_z w64 x)) within ∙ (λ j. c.loop-i.invariant.first j ++ same j ∷ []) ∙ sym more;
      parts = subst (All (λ y. y ≤ℤ top)) (sym more) (All-push (λ y. y ≤ℤ top) (take i key) x c.loop-i.invariant.parts small);
      room = length-set c.loop-i.parts i (to_z w64 (of_z w64 x)) ∙ c.loop-i.invariant.room;
    }
