use Rattle.std.proofs.Common.{◌≡◌, rules, ◌∙◌, sym, ap, subst, ◌∷◌, ◌++◌, [], FitsSigned, w64, append-nil}
use Rattle.std.specs.Int.{int_max}
use Rattle.std.proofs.lemmas.Int.{to_z-of_z}
use Rattle.std.specs.Ordering.{is_gt}
use Rattle.acc_base.specs.Tables.{best, parts_at, with_part, place_cmp}
use Rattle.acc_store.specs.Rows.{live, IsRising}
use Rattle.acc_store.specs.Runs.{left_behind}
use Rattle.acc_store.proofs.Steps.{parts-last, best-last}
use Rattle.acc_store.proofs.sums.greatest_live.Goals as goal

pub returns-in-Some-part_at : goal.returns-in-Some-part_at
returns-in-Some-part_at c =
    let n = c.args.at in
    let x = c.in-Some-part_at.part in
    let front = parts_at n (live (left_behind c.next_back.new.self)) in
    let fits : FitsSigned w64 x = search rules in
    let parts : parts_at n (live (left_behind c.args.entries)) ≡ front ++ x ∷ [] =
    c.loop-place.invariant.parts ∙ ap (λ es. parts_at n (live es)) c.in-Some.ensures.left ∙ parts-last n (left_behind c.next_back.new.self)
    c.in-Some.place.now c.in-Some.slot.now ∙ ap (λ p. front ++ with_part p []) (sym c.in-Some-part_at.ensures) in
    to_z-of_z w64 x fits ∙ sym (ap (best int_max) parts ∙ best-last front x (subst IsRising parts c.requires.rising))

pub loop-place-preserved : goal.loop-place-preserved
loop-place-preserved c =
    let n = c.args.at in
    let front = parts_at n (live (left_behind c.next_back.new.self)) in
    record {
      parts = c.loop-place.invariant.parts ∙ ap (λ es. parts_at n (live es)) c.in-Some.ensures.left ∙
          parts-last n (left_behind c.next_back.new.self) c.in-Some.place.now c.in-Some.slot.now ∙
          ap (λ p. front ++ with_part p []) (sym c.in_default-part_at.ensures) ∙ append-nil front;
      forward = (λ i. is_gt (place_cmp (c.in-Some.ensures.ends.0 i) (c.in-Some.ensures.ends.1 i))) ∙ c.loop-place.invariant.forward;
    }
