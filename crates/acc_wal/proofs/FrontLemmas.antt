-- Fronts of a history that goes on.
use Rattle.std.proofs.Common.{◌≤◌, ℕ, List, ◌++◌, length, inl, inr, refl, sym, subst, arith, length-append}
use Rattle.std.proofs.lemmas.List.{take_all, take_at, take-append-le}
use Rattle.acc_base.specs.declared.machines.Event.{Event}
use Rattle.acc_wal.specs.Journals.{Counts}
use Rattle.acc_wal.specs.Wals.{CountsEither}
use Rattle.acc_wal.specs.Fronts.{CountsFront}

-- the durable part, or that with the whole tail, is such a front
pub front_of_either : (base image : List ℕ) (durable tail : List Event) → CountsEither base durable tail image →
    CountsFront base (durable ++ tail) (length durable) image
front_of_either base image durable tail (inl before) = record {
  count = length durable;
  at_least = omega arith;
  within = omega (arith, length-append durable tail);
  counts = subst (λ events. Counts image base events) (sym (take_at durable tail (length durable) refl)) before;
}
front_of_either base image durable tail (inr after) = record {
  count = length (durable ++ tail);
  at_least = omega (arith, length-append durable tail);
  within = omega arith;
  counts = subst (λ events. Counts image base events) (sym (take_all (length (durable ++ tail)) (durable ++ tail) (omega arith))) after;
}

-- a front of a history is one of each history that goes on from it
pub front_goes_on : (base image : List ℕ) (history more : List Event) (least lower : ℕ) → lower ≤ least →
    CountsFront base history least image → CountsFront base (history ++ more) lower image
front_goes_on base image history more least lower le front = record {
  count = front.count;
  at_least = omega (arith, le, front.at_least);
  within = omega (arith, front.within, length-append history more);
  counts = subst (λ events. Counts image base events) (sym (take-append-le front.count history more front.within)) front.counts;
}
